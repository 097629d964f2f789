-- Names and tables, as facts and as tests.
use Rattle.std.proofs.Common.{◌≡◌, ℕ, ◌<◌, ◌≤◌, Bool, true, false, cond, List, [], ◌∷◌, length, nat_le, Some, None}
use Rattle.std.proofs.Common.{refl, arith}
use Rattle.std.specs.Prelude.{◌==◌, ◌&&◌, not, nat_lt}
use Rattle.std.specs.List.{AllByRecursion, list_all}
use Rattle.std.proofs.lemmas.Bool.{and_parts, leb-true, ltb-false, ltb-true}
use Rattle.std.proofs.lemmas.Bool.Decides.{nat_tests}
use Rattle.std.proofs.lemmas.List.Elements.{All-from_recursion, recursion_from_All}
use Rattle.at_ddp.proofs.Octets.{InBytes, bytes_of}
use Rattle.at_zip.specs.Zones.{IsName, IsTable, is_byte, is_name, table_fault}
use Rattle.at_zip.specs.declared.fault.ZipFault.TheVariants.{BadZone, TooManyZones}

each_in_byte : (name : List ℕ) → AllByRecursion (λ b. b < 256) name → list_all is_byte name ≡ true
each_in_byte [] each = refl
each_in_byte (b ∷ name) each = rw (each_in_byte name each.1) (byte b each.0)
  where
    byte : (b : ℕ) → b < 256 → (is_byte b && true) ≡ true
    byte b lt = grind (arith, nat_tests)

pub name_is : (bytes : List ℕ) (empty : Bool) → empty ≡ (length bytes == 0) → InBytes bytes → length bytes ≤ 32
    → not empty ≡ is_name bytes
name_is bytes empty none fits short =
    let each = each_in_byte bytes (recursion_from_All (λ b. b < 256) bytes (bytes_of bytes fits)) in
    rw none (tests (length bytes) (list_all is_byte bytes) short each)
  where
    tests : (n : ℕ) (each : Bool) → n ≤ 32 → each ≡ true → not (n == 0) ≡ (nat_lt 0 n && nat_le n 32 && each)
    tests n each short is = grind (arith, nat_tests, is)

bytes_are : (name : List ℕ) → list_all is_byte name ≡ true → AllByRecursion (λ b. b < 256) name
bytes_are [] h = tt
bytes_are (b ∷ name) h = let parts = and_parts (is_byte b) (list_all is_byte name) h in
    (ltb-true b 256 parts.0, bytes_are name parts.1)

pub is_a_name : (name : List ℕ) → is_name name ≡ true → IsName name
is_a_name name h =
    let outer = and_parts (nat_lt 0 (length name) && nat_le (length name) 32) (list_all is_byte name) h in
    let inner = and_parts (nat_lt 0 (length name)) (nat_le (length name) 32) outer.0 in
    record {
      some = ltb-true 0 (length name) inner.0;
      fits = leb-true (length name) 32 inner.1;
      bytes = All-from_recursion (λ b. b < 256) name (bytes_are name outer.1);
    }

are_all_names : (names : List (List ℕ)) → list_all is_name names ≡ true → AllByRecursion IsName names
are_all_names [] h = tt
are_all_names (name ∷ names) h = let parts = and_parts (is_name name) (list_all is_name names) h in
    (is_a_name name parts.0, are_all_names names parts.1)

pub is_a_table : (names : List (List ℕ)) → table_fault names ≡ None → IsTable names
is_a_table names h = go (nat_lt 1024 (length names)) (list_all is_name names) refl refl h
  where
    go : (long each : Bool) → nat_lt 1024 (length names) ≡ long → list_all is_name names ≡ each
        → cond long (Some TooManyZones) (cond each None (Some BadZone)) ≡ None → IsTable names
    go true each l e g = absurd (cc)
    go false false l e g = absurd (cc)
    go false true l e g = record {
      each = All-from_recursion IsName names (are_all_names names e);
      count = ltb-false 1024 (length names) l;
    }

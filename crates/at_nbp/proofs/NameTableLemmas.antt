-- A table of names: when a name can be registered, where one stands, and what holds of the names after each call.
use Rattle.std.proofs.Common.{◌≡◌, ℕ, ◌<◌, Bool, true, false, List, [], ◌∷◌, ◌++◌, length, Some, None, IsSome}
use Rattle.std.proofs.Common.{refl, arith}
use Rattle.std.specs.Prelude.{◌||◌, find, is_some, nat_le, if◌then◌else◌}
use Rattle.std.specs.List.{IsDistinct, list_any}
use Rattle.std.proofs.lemmas.Bool.Decides.{nat_tests}
use Rattle.std.proofs.lemmas.List.{length-append}
use Rattle.at_ddp.specs.Tables.{without_first}
use Rattle.at_ddp.proofs.Alls.{none_any, none_met}
use Rattle.at_ddp.proofs.DistinctLemmas.{differ_append, differ_without}
use Rattle.at_ddp.proofs.CountLemmas.{length_without}
use Rattle.at_nbp.specs.NameTables.{AreNames, has_number, is_called, is_no_text, register_fault}
use Rattle.at_nbp.specs.declared.fault.NbpFault.TheVariants.{NameInUse, EmptyName, NamesFull}
use Rattle.at_nbp.specs.declared.names.Registered.{Registered}
use Rattle.at_ddp.proofs.CaseLemmas.{none_of}

no_room : (few : Bool) → (if few then Some NamesFull else None) ≡ None → few ≡ false
no_room true h = absurd cc
no_room false h = refl

-- there is room for one name more
pub has_room : (names : List Registered) (object kind : List ℕ) → register_fault names object kind ≡ None
    → length names < 64
has_room names object kind h =
    go (is_no_text object || is_no_text kind) (is_some (find (is_called object kind) names)) h
  where
    go : (a b : Bool) → (if a then Some EmptyName else if b then Some NameInUse else if nat_le 64
        (length names) then Some NamesFull else None) ≡ None → length names < 64
    go true b g = absurd cc
    go false true g = absurd cc
    go false false g = let full : nat_le 64 (length names) ≡ false = no_room (nat_le 64 (length names)) g in
        grind (arith, nat_tests, full)

-- no name is called so
pub is_new : (names : List Registered) (object kind : List ℕ) → register_fault names object kind ≡ None
    → find (is_called object kind) names ≡ None
is_new names object kind h =
    go (is_no_text object || is_no_text kind) (is_some (find (is_called object kind) names)) refl h
  where
    go : (a b : Bool) → is_some (find (is_called object kind) names) ≡ b
        → (if a then Some EmptyName else if b then Some NameInUse else if nat_le 64
        (length names) then Some NamesFull else None) ≡ None → find (is_called object kind) names ≡ None
    go true b e g = absurd cc
    go false true e g = absurd cc
    go false false e g = none_of (find (is_called object kind) names) e

-- ---- what holds of the names of every table

pub no_names : AreNames []
unfolding IsDistinct
no_names = record { few = omega arith; differ = tt; numbers = tt }

pub registered_lawful : (names : List Registered) (name : Registered) → AreNames names
    → register_fault names name.object name.kind ≡ None → list_any (has_number name.socket name.enumerator) names
    ≡ false →
    AreNames (names ++ name ∷ [])
registered_lawful names name h none free = record {
  few = omega (arith, has_room names name.object name.kind none, length-append names (name ∷ []));
  differ = differ_append (λ a b. is_called b.object b.kind a) names name h.differ
      (none_met (is_called name.object name.kind) names (is_new names name.object name.kind none));
  numbers = differ_append (λ a b. has_number b.socket b.enumerator a) names name h.numbers
      (none_any (has_number name.socket name.enumerator) names free);
}

pub unregistered_lawful : (p : Registered → Bool) (names : List Registered) → AreNames names
    → AreNames (without_first p names)
unregistered_lawful p names h = record {
  few = let few = h.few in omega (arith, few, length_without p names);
  differ = differ_without (λ a b. is_called b.object b.kind a) p names h.differ;
  numbers = differ_without (λ a b. has_number b.socket b.enumerator a) p names h.numbers;
}

-- ---- whether a name is there

pub none_found : {X : Type 0} (p : X → Bool) (names : List X) → find p names ≡ None
    → (false ≡ true → IsSome (find p names)) × (IsSome (find p names) → false ≡ true)
none_found p names none = (λ h. absurd cc, λ some. absurd (grind (arith, none, some)))

pub some_found : {X : Type 0} (p : X → Bool) (names : List X) (name : X) → find p names ≡ Some name
    → (true ≡ true → IsSome (find p names)) × (IsSome (find p names) → true ≡ true)
some_found p names name some = (λ h. rw some refl, λ h. refl)

-- Pages: bytes spell one page, what is read is spelled so, and nothing that is spelled is refused.
use Rattle.std.proofs.Common.{◌≡◌, ◌≢◌, ◌↔◌, ℕ, ◌+◌, ◌*◌, ◌^◌, ◌<◌, Bool, true, false, not, IsTrue, nat_eq, List, []}
use Rattle.std.proofs.Common.{◌∷◌, ◌++◌, length, get_or, Result, Ok, Err, refl, sym, ap, subst, ◌∙◌, arith}
use Rattle.std.specs.Prelude.{All, IfOk, IfErr, if◌then◌else◌}
use Rattle.std.specs.Int.{from_bool, to_be_bytes, w16}
use Rattle.std.proofs.lemmas.Bool.Decides.{nat_tests}
use Rattle.at_ddp.proofs.Octets.{InBytes, high_byte, low_byte, same_number}
use Rattle.at_zip.specs.Fault.{flag_of, count_of, StandsAfterNames, IsFirstFault}
use Rattle.at_zip.specs.Names.{BeginsWithNames, spelled}
use Rattle.at_zip.specs.Page.{Page, Spells, user_spelling, page_user}
use Rattle.at_zip.specs.PageView.{IsFront, cut}
use Rattle.at_zip.specs.Zones.{IsName}
use Rattle.at_zip.specs.declared.fault.ZipFault.{ZipFault}
use Rattle.at_zip.specs.declared.fault.ZipFault.TheVariants.{CountMismatch, BadZone, EmptyPage}
use Rattle.at_zip.proofs.NameLemmas.{no_fault_after, one_fault_after}
use Rattle.at_zip.proofs.SpelledLemmas.{same_names, same_page, same_test, cut_spelled}

pub one_page : (user bytes : List ℕ) (p q : Page) → Spells user bytes p → Spells user bytes q → p ≡ q
one_page user bytes p q s t =
    let at : (i : ℕ) → get_or (user_spelling s.flag s.free p) i 0
    ≡ get_or (user_spelling t.flag t.free q) i 0 =
    λ i. ap (λ (l : List ℕ). get_or l i 0) (sym s.fields ∙ t.fields) in
    let count = same_number (length p.names) (length q.names) s.lawful.count t.lawful.count (at 2) (at 3) in
    let flag : s.flag ≡ t.flag = at 0 in
    let last = same_test p.last q.last (λ is. t.flag_says.1 (λ zero. s.flag_says.0 is (flag ∙ zero)))
    (λ is. s.flag_says.1 (λ zero. t.flag_says.0 is (sym flag ∙ zero))) in
    same_page p q last (same_names p.names q.names s.rest t.rest bytes count s.follows t.follows)

-- ---- what is spelled has no fault

is_false : (b : Bool) → ¬ IsTrue b → b ≡ false
is_false true never = absurd (never refl)
is_false false never = refl

named : (user bytes : List ℕ) (p : Page) → Spells user bytes p → (fault : ZipFault)
    → ¬ StandsAfterNames fault (count_of user) bytes
named user bytes p s fault h =
    let count = s.lawful.count in
    let counted : count_of user ≡ length p.names = omega (arith, ap count_of s.fields) in
    no_fault_after fault p.names bytes s.rest s.lawful.each s.follows
    (subst (λ n. StandsAfterNames fault n bytes) counted h)

pub no_fault : (user bytes : List ℕ) (p : Page) → Spells user bytes p → (fault : ZipFault)
    → ¬ IsFirstFault fault user bytes
no_fault user bytes p s EmptyPage h =
    let flag : flag_of user ≡ s.flag = ap flag_of s.fields in
    let not_last : p.last ≡ false = is_false p.last (λ t. s.flag_says.0 t (sym flag ∙ h.0)) in
    let count = s.lawful.count in
    absurd (omega (arith, ap count_of s.fields, h.1, s.lawful.some not_last))
no_fault user bytes p s CountMismatch h = named user bytes p s CountMismatch h
no_fault user bytes p s BadZone h = named user bytes p s BadZone h
no_fault user bytes p s _ h = h

pub read_alone : (user bytes : List ℕ) (r : Result Page ZipFault) → IfOk r (Spells user bytes)
    → IfErr r (λ fault. IsFirstFault fault user bytes) → (p : Page) → Spells user bytes p → r ≡ Ok p
read_alone user bytes (Ok q) found fault p s = ap (λ (x : Page). Ok x) (one_page user bytes q p found s)
read_alone user bytes (Err e) found fault p s = absurd (no_fault user bytes p s e fault)

-- a page that counts no names has no fault of a name
counts_some : (user bytes : List ℕ) (fault : ZipFault) → StandsAfterNames fault (count_of user) bytes
    → ¬ IsFirstFault EmptyPage user bytes
counts_some user bytes fault h empty = absurd (omega (arith, h.fewer, empty.1))

pub one_fault : (user bytes : List ℕ) (fault other : ZipFault) → IsFirstFault fault user bytes
    → IsFirstFault other user bytes → fault ≡ other
one_fault user bytes EmptyPage EmptyPage h k = refl
one_fault user bytes EmptyPage CountMismatch h k = absurd (counts_some user bytes CountMismatch k h)
one_fault user bytes EmptyPage BadZone h k = absurd (counts_some user bytes BadZone k h)
one_fault user bytes EmptyPage _ h k = absurd k
one_fault user bytes CountMismatch EmptyPage h k = absurd (counts_some user bytes CountMismatch h k)
one_fault user bytes CountMismatch CountMismatch h k = refl
one_fault user bytes CountMismatch BadZone h k = one_fault_after CountMismatch BadZone (count_of user) bytes h k
one_fault user bytes CountMismatch _ h k = absurd k
one_fault user bytes BadZone EmptyPage h k = absurd (counts_some user bytes BadZone h k)
one_fault user bytes BadZone CountMismatch h k = one_fault_after BadZone CountMismatch (count_of user) bytes h k
one_fault user bytes BadZone BadZone h k = refl
one_fault user bytes BadZone _ h k = absurd k
one_fault user bytes _ other h k = absurd h

pub refused : (user bytes : List ℕ) (r : Result Page ZipFault) → IfOk r (Spells user bytes)
    → IfErr r (λ fault. IsFirstFault fault user bytes) → (fault : ZipFault) → IsFirstFault fault user bytes → r
    ≡ Err fault
refused user bytes (Ok p) found is fault h = absurd (no_fault user bytes p found fault h)
refused user bytes (Err e) found is fault h = ap (λ (f : ZipFault). Err f) (one_fault user bytes e fault is h)

-- ---- what is read is spelled

-- any flag but 0 says that the page is the last
says : (flag : ℕ) → IsTrue (not (nat_eq flag 0)) ↔ (flag ≢ 0)
says flag = grind (arith, nat_tests)

pub cut_is_names : (count : ℕ) (bytes rest : List ℕ) → (b : BeginsWithNames count bytes rest) → cut count bytes
    ≡ b.names
cut_is_names count bytes rest b = (λ i. cut (sym b.counted i) (b.follows i)) ∙ cut_spelled b.names rest

pub is_front : (last : Bool) (count : ℕ) (bytes rest : List ℕ) → BeginsWithNames count bytes rest → count < 2 ^ 16
    → (last ≡ false → 0 < count) →
    IsFront (record { last = last; names = cut count bytes }) count bytes
is_front last count bytes rest b fits some =
    let names : cut count bytes ≡ b.names = cut_is_names count bytes rest b in
    let counted : length (cut count bytes) ≡ count = ap (length {A = List ℕ}) names ∙ b.counted in
    record {
      lawful = record {
        each = subst (All IsName) (sym names) b.each;
        count = omega arith;
        some = λ no. let s = some no in omega arith;
      };
      counted = counted;
      rest = rest;
      follows = b.follows ∙ ap (λ l. spelled l ++ rest) (sym names);
    }

pub is_spelled : (user bytes : List ℕ) (count : ℕ) → length user ≡ 4 → InBytes user → count ≡ count_of user
    → IsFront (record { last = not (nat_eq (flag_of user) 0); names = cut count bytes }) count bytes →
    Spells user bytes (record { last = not (nat_eq (flag_of user) 0); names = cut count bytes })
is_spelled (flag ∷ free ∷ high ∷ low ∷ []) bytes count len fits is front =
    let number : length (cut count bytes) ≡ 256 * high + low = front.counted ∙ is in
    record {
      lawful = front.lawful;
      flag = flag;
      flag_in_byte = fits 0;
      flag_says = says flag;
      free = free;
      free_in_byte = fits 1;
      rest = front.rest;
      fields = rw (number, high_byte high low (fits 2) (fits 3), low_byte high low (fits 3)) refl;
      follows = front.follows;
    }
is_spelled _ bytes count len fits is front = absurd (omega arith)

-- ---- what is written

byte_of : (b : Bool) → from_bool b ≡ (if b then 1 else 0)
byte_of true = refl
byte_of false = refl

pub user_is : (run left : List (List ℕ)) (p : Page) → run ≡ p.names → nat_eq (length run) (length left) ≡ p.last →
    from_bool (nat_eq (length run) (length left)) ∷ 0 ∷ to_be_bytes w16 (length run) ≡ page_user p
user_is run left p names last =
    (λ i. from_bool (last i) ∷ 0 ∷ to_be_bytes w16 (length (names i)))
    ∙ ap (λ flag. flag ∷ 0 ∷ to_be_bytes w16 (length p.names)) (byte_of p.last)

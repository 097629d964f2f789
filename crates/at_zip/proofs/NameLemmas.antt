-- Names at the front of bytes: what is read there, and that bytes that spell names have no fault.
use Rattle.std.proofs.Common.{◌≡◌, inl, inr, ℕ, ◌+◌, ◌<◌, ◌≤◌, List, [], ◌∷◌, ◌++◌, length, take, drop, Result, Ok, Err}
use Rattle.std.proofs.Common.{Bor, refl, sym, ap, subst, ◌∙◌, append_assoc, arith}
use Rattle.std.specs.Prelude.{All, IfOk, IfErr, IsOkAnd}
use Rattle.std.proofs.lemmas.List.{append_cancel_left, length-append, length-take-le, take-append-drop}
use Rattle.std.proofs.lemmas.List.Elements.{All-take, All-tail, All-head, All-push}
use Rattle.at_ddp.specs.Datagram.{AreBytes}
use Rattle.at_ddp.proofs.Octets.{InBytes, bytes_of, append_parts, head_of, tail_of}
use Rattle.at_zip.specs.Fault.{StandsAt, StandsAfterNames}
use Rattle.at_zip.specs.Names.{BeginsWithNames, name_spelling, spelled}
use Rattle.at_zip.specs.Zones.{IsName}
use Rattle.at_zip.specs.declared.fault.ZipFault.{ZipFault}
use Rattle.at_zip.specs.declared.fault.ZipFault.TheVariants.{CountMismatch, BadZone}
use Rattle.at_zip.proofs.SpelledLemmas.{spelled-append, spelled_front, same_names}

-- ---- what is read

pub is_name_front : (bytes rest front back : List ℕ) (len : ℕ) → InBytes bytes → bytes ≡ len ∷ rest → 0 < len
    → len ≤ 32 → len ≤ length rest → front ≡ take len rest → back ≡ drop len rest →
    IsName front × (bytes ≡ name_spelling front ++ back)
is_name_front bytes rest front back len fits is some short enough taken left =
    let size : length front ≡ len = ap (length {A = ℕ}) taken ∙ length-take-le len rest enough in
    let each : AreBytes (len ∷ rest) = subst AreBytes is (bytes_of bytes fits) in
    let octets : AreBytes front =
    subst AreBytes (sym taken) (All-take (λ b. b < 256) len rest (All-tail (λ b. b < 256) len rest each)) in
    let whole : rest ≡ front ++ back = sym ((λ i. taken i ++ left i) ∙ take-append-drop len rest) in
    (record { some = omega arith; fits = omega arith; bytes = octets }, is ∙ (λ i. sym size i ∷ whole i))

pub begins_more : (count : ℕ) (bytes rest name after : List ℕ) → BeginsWithNames count bytes rest → IsName name → rest
    ≡ name_spelling name ++ after → BeginsWithNames (count + 1) bytes after
begins_more count bytes rest name after b ok is = record {
  names = b.names ++ name ∷ [];
  each = All-push IsName b.names name b.each ok;
  counted = omega (arith, length-append b.names (name ∷ []), b.counted);
  follows = b.follows ∙ ap (λ l. spelled b.names ++ l) (is ∙ sym (spelled_front name [] after))
      ∙ sym (append_assoc (spelled b.names) (spelled (name ∷ [])) after)
      ∙ ap (λ l. l ++ after) (sym (spelled-append b.names (name ∷ [])));
}

-- ---- bytes that spell names

-- names that begin with the same byte have the same bytes, and the same follows them
pub same_fronts : (a b x y : List ℕ) → name_spelling a ++ x ≡ name_spelling b ++ y → (a ≡ b) × (x ≡ y)
same_fronts a b x y e = append_parts a b x y (head_of (length a) (length b) (a ++ x) (b ++ y) e)
    (tail_of (length a) (length b) (a ++ x) (b ++ y) e)

no_fault_at_name : (fault : ZipFault) (name rest : List ℕ) → IsName name → ¬ StandsAt fault (name_spelling name ++ rest)
no_fault_at_name CountMismatch name rest ok h = absurd (omega (arith, h.2, length-append name rest))
no_fault_at_name BadZone name rest ok h = let some = ok.some in let fits = ok.fits in
    elim h [ inl none ↦ omega arith | inr long ↦ omega arith ]
no_fault_at_name _ name rest ok h = h

no_fault_before : (fault : ZipFault) (xs ys : List (List ℕ)) (r s : List ℕ) → All IsName ys → length xs < length ys
    → spelled xs ++ r ≡ spelled ys ++ s → ¬ StandsAt fault r
no_fault_before fault xs [] r s ok lt e h = absurd (omega arith)
no_fault_before fault [] (y ∷ ys) r s ok lt e h =
    no_fault_at_name fault y (spelled ys ++ s) (All-head IsName y ys ok)
    (subst (StandsAt fault) (e ∙ spelled_front y ys s) h)
no_fault_before fault (x ∷ xs) (y ∷ ys) r s ok lt e h =
    let parts = same_fronts x y (spelled xs ++ r) (spelled ys ++ s)
    (sym (spelled_front x xs r) ∙ e ∙ spelled_front y ys s) in
    no_fault_before fault xs ys r s (All-tail IsName y ys ok) (omega arith) parts.1 h

-- if the bytes begin with so many names, no fault comes after fewer
pub no_fault_after : (fault : ZipFault) (names : List (List ℕ)) (bytes rest : List ℕ) → All IsName names → bytes
    ≡ spelled names ++ rest → ¬ StandsAfterNames fault (length names) bytes
no_fault_after fault names bytes rest ok is h =
    no_fault_before fault h.begins.names names h.rest rest ok (omega (arith, h.fewer, h.begins.counted))
    (sym h.begins.follows ∙ is) h.stands

-- ---- one fault

-- bytes have at most one fault at a place
one_fault_at : (fault other : ZipFault) (bytes : List ℕ) → StandsAt fault bytes → StandsAt other bytes → fault ≡ other
one_fault_at CountMismatch CountMismatch bytes h k = refl
one_fault_at CountMismatch BadZone [] h k = absurd k
one_fault_at CountMismatch BadZone (b ∷ bytes) h k =
    elim k [ inl none ↦ absurd (omega (arith, h.0)) | inr long ↦ absurd (omega (arith, h.1)) ]
one_fault_at CountMismatch _ bytes h k = absurd k
one_fault_at BadZone BadZone bytes h k = refl
one_fault_at BadZone CountMismatch [] h k = absurd h
one_fault_at BadZone CountMismatch (b ∷ bytes) h k =
    elim h [ inl none ↦ absurd (omega (arith, k.0)) | inr long ↦ absurd (omega (arith, k.1)) ]
one_fault_at BadZone _ bytes h k = absurd k
one_fault_at _ other bytes h k = absurd h

-- all faults come after equally many names
no_fewer : (fault other : ZipFault) (count : ℕ) (bytes : List ℕ) (h : StandsAfterNames fault count bytes)
    (k : StandsAfterNames other count bytes) → h.before < k.before → ⊥
no_fewer fault other count bytes h k lt =
    no_fault_before fault h.begins.names k.begins.names h.rest k.rest k.begins.each
    (omega (arith, h.begins.counted, k.begins.counted)) (sym h.begins.follows ∙ k.begins.follows) h.stands

pub one_fault_after : (fault other : ZipFault) (count : ℕ) (bytes : List ℕ) → StandsAfterNames fault count bytes
    → StandsAfterNames other count bytes → fault ≡ other
one_fault_after fault other count bytes h k =
    let low : h.before < k.before → ⊥ = no_fewer fault other count bytes h k in
    let high : k.before < h.before → ⊥ = no_fewer other fault count bytes k h in
    let counted : length h.begins.names ≡ length k.begins.names = omega (arith, h.begins.counted, k.begins.counted) in
    let same = same_names h.begins.names k.begins.names h.rest k.rest bytes counted h.begins.follows k.begins.follows in
    let rest : h.rest ≡ k.rest = append_cancel_left (spelled h.begins.names) h.rest k.rest
    (sym h.begins.follows ∙ k.begins.follows ∙ ap (λ l. spelled l ++ k.rest) (sym same)) in
    one_fault_at fault other k.rest (subst (StandsAt fault) rest h.stands) k.stands

-- the name that is spelled there is read
pub name_is_read : (r : Result (Bor (List ℕ) × Bor (List ℕ)) ZipFault) (bytes name after : List ℕ)
    → IfOk r (λ x. IsName x.0.now × (bytes ≡ name_spelling x.0.now ++ x.1.now)) →
    IfErr r (λ fault. StandsAt fault bytes) → IsName name → bytes ≡ name_spelling name ++ after
    → IsOkAnd r (λ x. (x.0.now ≡ name) × (x.1.now ≡ after))
name_is_read (Ok x) bytes name after found fault ok is = same_fronts x.0.now name x.1.now after (sym found.1 ∙ is)
name_is_read (Err e) bytes name after found fault ok is =
    absurd (no_fault_at_name e name after ok (subst (StandsAt e) is fault))

-- Names as a page spells them: their bytes together, and which names they are.
use Rattle.std.proofs.Common.{◌≡◌, ℕ, suc, ◌+◌, ◌<◌, ◌≤◌, List, [], ◌∷◌, ◌++◌, length, get_or, take, drop, Bool, true}
use Rattle.std.proofs.Common.{false, IsTrue, refl, sym, ap, ◌∙◌, append_assoc, arith}
use Rattle.std.proofs.lemmas.List.{append-nil, length-append, take-append-drop, take_more, drop_more}
use Rattle.std.proofs.lemmas.List.Concat.{flat_map-append}
use Rattle.std.proofs.Math.Seq.{take-append_seam, drop-append_seam}
use Rattle.at_zip.specs.Names.{name_spelling, spelled}
use Rattle.at_zip.specs.Page.{Page}
use Rattle.at_zip.specs.PageView.{cut}

pub spelled-append : (xs ys : List (List ℕ)) → spelled (xs ++ ys) ≡ spelled xs ++ spelled ys
spelled-append xs ys = flat_map-append name_spelling xs ys

pub length-spelled-cons : (name : List ℕ) (names : List (List ℕ)) → length (spelled (name ∷ names))
    ≡ length name + 1 + length (spelled names)
length-spelled-cons name names = omega (arith, length-append name (spelled names))

pub length-spelled-append : (xs ys : List (List ℕ)) → length (spelled (xs ++ ys))
    ≡ length (spelled xs) + length (spelled ys)
length-spelled-append xs ys = ap (length {A = ℕ}) (spelled-append xs ys) ∙ length-append (spelled xs) (spelled ys)

-- each name has a length byte
pub count_le_spelled : (names : List (List ℕ)) → length names ≤ length (spelled names)
count_le_spelled [] = omega arith
count_le_spelled (name ∷ names) = omega (arith, length-spelled-cons name names, count_le_spelled names)

-- a beginning of the names has no more bytes
pub take_le_spelled : (n : ℕ) (names : List (List ℕ)) → length (spelled (take n names)) ≤ length (spelled names)
take_le_spelled n names =
    omega (
      arith,
      length-spelled-append (take n names) (drop n names),
      ap (λ (l : List (List ℕ)). length (spelled l))
          (take-append-drop n names),
    )

-- the length byte of the first name, its bytes, and all that follows
pub spelled_front : (name : List ℕ) (names : List (List ℕ)) (rest : List ℕ) → spelled (name ∷ names) ++ rest
    ≡ length name ∷ name ++ (spelled names ++ rest)
spelled_front name names rest = ap (λ l. length name ∷ l) (append_assoc name (spelled names) rest)

pub cut_spelled : (names : List (List ℕ)) (rest : List ℕ) → cut (length names) (spelled names ++ rest) ≡ names
cut_spelled [] rest = refl
cut_spelled (name ∷ names) rest =
    ap (cut (suc (length names))) (spelled_front name names rest)
    ∙ rw (
      take-append_seam name (spelled names ++ rest),
      drop-append_seam name
          (spelled names ++ rest),
      cut_spelled names rest,
    ) refl

-- as many names with the same bytes are the same names
pub same_names : (xs ys : List (List ℕ)) (r s bytes : List ℕ) → length xs ≡ length ys → bytes ≡ spelled xs ++ r → bytes
    ≡ spelled ys ++ s → xs ≡ ys
same_names xs ys r s bytes len p q =
    sym (ap (cut (length xs)) p ∙ cut_spelled xs r) ∙ ap (λ n. cut n bytes) len ∙ ap (cut (length ys)) q
    ∙ cut_spelled ys s

-- ---- pages with the same fields

pub same_test : (a b : Bool) → (IsTrue a → IsTrue b) → (IsTrue b → IsTrue a) → a ≡ b
same_test true b there back = sym (there refl)
same_test false true there back = back refl
same_test false false there back = refl

pub same_page : (p q : Page) → p.last ≡ q.last → p.names ≡ q.names → p ≡ q
same_page p q last names = λ i. record { last = last i; names = names i }

-- ---- one name more of a list of them

pub spelled_more : (names : List (List ℕ)) (i : ℕ) (name : List ℕ) → i < length names → name ≡ get_or names i name
    → spelled (take (i + 1) names) ≡ spelled (take i names) ++ name_spelling name
spelled_more names i name lt at =
    ap spelled (take_more names i name lt ∙ ap (λ n. take i names ++ n ∷ []) (sym at))
    ∙ spelled-append (take i names) (name ∷ [])
    ∙ ap (λ l. spelled (take i names) ++ l) (append-nil (name_spelling name))

-- the next name fits if all names fit
pub next_fits : (names : List (List ℕ)) (i : ℕ) (name : List ℕ) → i < length names → name ≡ get_or names i name
    → length (spelled (take i names)) + length (name_spelling name) ≤ length (spelled names)
next_fits names i name lt at =
    omega (
      arith,
      take_le_spelled (i + 1) names,
      ap (length {A = ℕ}) (spelled_more names i name lt at),
      length-append
          (spelled (take i names)) (name_spelling name),
    )

-- the names from a place on begin with the name at that place
pub spelled_at : (names : List (List ℕ)) (i : ℕ) (rest : List ℕ) → i < length names → spelled (drop i names) ++ rest
    ≡ name_spelling (get_or names i []) ++ (spelled (drop (i + 1) names) ++ rest)
spelled_at names i rest lt = ap (λ l. spelled l ++ rest) (drop_more names i [] lt)
    ∙ spelled_front (get_or names i []) (drop (i + 1) names) rest

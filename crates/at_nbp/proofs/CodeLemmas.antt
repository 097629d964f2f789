-- Lists of things spelled one behind the other, where no spelling begins another: what stands there is one list.
use Rattle.std.proofs.Common.{◌≡◌, ℕ, ◌<◌, List, [], ◌∷◌, ◌++◌, length, refl, sym, ◌∙◌, subst, append_assoc, arith}
use Rattle.std.specs.Prelude.{All}
use Rattle.std.specs.List.{flat_map}
use Rattle.std.proofs.lemmas.List.Elements.{All-tail, All-head}

-- no spelling of what is lawful begins another, and nothing bad stands where one begins
pub record IsCode {X : Type 0} (spell : X → List ℕ) (Is : X → Type 0) (Bad : List ℕ → Type 0) : Type 0 where
  pub same : (x y : X) (r s : List ℕ) → Is x → Is y → spell x ++ r ≡ spell y ++ s → (x ≡ y) × (r ≡ s)
  pub whole : (x : X) (r : List ℕ) → Is x → ¬ Bad (spell x ++ r)

pub flat_front : {X : Type 0} (spell : X → List ℕ) (x : X) (xs : List X) (r : List ℕ) → flat_map spell (x ∷ xs) ++ r
    ≡ spell x ++ (flat_map spell xs ++ r)
flat_front spell x xs r = append_assoc (spell x) (flat_map spell xs) r

-- as many things in the same bytes are the same, and the same follows them
pub same_fronts : {X : Type 0} (spell : X → List ℕ) (Is : X → Type 0) (Bad : List ℕ → Type 0)
    (code : IsCode spell Is Bad) (xs ys : List X) (r s : List ℕ) → All Is xs → All Is ys →
    length xs ≡ length ys → flat_map spell xs ++ r ≡ flat_map spell ys ++ s → (xs ≡ ys) × (r ≡ s)
same_fronts spell Is Bad code [] [] r s each each' len e = (refl, e)
same_fronts spell Is Bad code [] (y ∷ ys) r s each each' len e = absurd (omega arith)
same_fronts spell Is Bad code (x ∷ xs) [] r s each each' len e = absurd (omega arith)
same_fronts spell Is Bad code (x ∷ xs) (y ∷ ys) r s each each' len e =
    let head = code.same x y (flat_map spell xs ++ r) (flat_map spell ys ++ s) (All-head Is x xs each)
    (All-head Is y ys each') (sym (flat_front spell x xs r) ∙ e ∙ flat_front spell y ys s) in
    let tail = same_fronts spell Is Bad code xs ys r s (All-tail Is x xs each) (All-tail Is y ys each')
    (omega arith) head.1 in
    ((λ i. head.0 i ∷ tail.0 i), tail.1)

-- nothing bad stands before the last of them
pub no_bad_before : {X : Type 0} (spell : X → List ℕ) (Is : X → Type 0) (Bad : List ℕ → Type 0)
    (code : IsCode spell Is Bad) (xs ys : List X) (r s : List ℕ) → All Is xs → All Is ys →
    length xs < length ys → flat_map spell xs ++ r ≡ flat_map spell ys ++ s → ¬ Bad r
no_bad_before spell Is Bad code xs [] r s each each' lt e bad = absurd (omega arith)
no_bad_before spell Is Bad code [] (y ∷ ys) r s each each' lt e bad =
    code.whole y (flat_map spell ys ++ s) (All-head Is y ys each') (subst Bad (e ∙ flat_front spell y ys s) bad)
no_bad_before spell Is Bad code (x ∷ xs) (y ∷ ys) r s each each' lt e bad =
    let head = code.same x y (flat_map spell xs ++ r) (flat_map spell ys ++ s) (All-head Is x xs each)
    (All-head Is y ys each') (sym (flat_front spell x xs r) ∙ e ∙ flat_front spell y ys s) in
    no_bad_before spell Is Bad code xs ys r s (All-tail Is x xs each) (All-tail Is y ys each') (omega arith) head.1 bad

-- what is bad stands at one place
pub same_bad : {X : Type 0} (spell : X → List ℕ) (Is : X → Type 0) (Bad : List ℕ → Type 0) (code : IsCode spell Is Bad)
    (xs ys : List X) (r s : List ℕ) → All Is xs → All Is ys →
    Bad r → Bad s → flat_map spell xs ++ r ≡ flat_map spell ys ++ s → r ≡ s
same_bad spell Is Bad code [] [] r s each each' bad bad' e = e
same_bad spell Is Bad code [] (y ∷ ys) r s each each' bad bad' e =
    absurd (code.whole y (flat_map spell ys ++ s) (All-head Is y ys each')
    (subst Bad (e ∙ flat_front spell y ys s) bad))
same_bad spell Is Bad code (x ∷ xs) [] r s each each' bad bad' e =
    absurd (code.whole x (flat_map spell xs ++ r) (All-head Is x xs each)
    (subst Bad (sym e ∙ flat_front spell x xs r) bad'))
same_bad spell Is Bad code (x ∷ xs) (y ∷ ys) r s each each' bad bad' e =
    let head = code.same x y (flat_map spell xs ++ r) (flat_map spell ys ++ s) (All-head Is x xs each)
    (All-head Is y ys each') (sym (flat_front spell x xs r) ∙ e ∙ flat_front spell y ys s) in
    same_bad spell Is Bad code xs ys r s (All-tail Is x xs each) (All-tail Is y ys each') bad bad' head.1

-- Lists by their parts: what stands before an entry, and what stands behind it.
use Rattle.std.proofs.Common.{◌≡◌, ℕ, ◌+◌, List, [], ◌∷◌, ◌++◌, length, Some, refl, ap, arith}
use Rattle.std.specs.Prelude.{slice_get, ◌==◌}
use Rattle.std.proofs.lemmas.Bool.Decides.{nat_tests}

pub there : {X : Type 0} (before : List X) (x : X) (xs : List X) → slice_get (before ++ x ∷ xs) (length before) ≡ Some x
there [] x xs = refl
there (b ∷ before) x xs = there before x xs

pub length_at : {X : Type 0} (before : List X) (x : X) (xs : List X)
    → length (before ++ x ∷ xs) ≡ length before + 1 + length xs
length_at [] x xs = omega arith
length_at (b ∷ before) x xs = let rest = length_at before x xs in omega arith

pub moved_on : {X : Type 0} (before : List X) (x : X) (xs : List X) → before ++ x ∷ xs ≡ (before ++ x ∷ []) ++ xs
moved_on [] x xs = refl
moved_on (b ∷ before) x xs = ap (λ l. b ∷ l) (moved_on before x xs)

-- nothing stands behind the last place
pub is_last : (n place len : ℕ) → len ≡ place + 1 + n → (n == 0) ≡ (place + 1 == len)
is_last n place len h = grind (arith, nat_tests, h)

-- The first of a list that a test holds of, place by place.
use Rattle.std.proofs.Common.{◌≡◌, ℕ, zero, suc, ◌+◌, ◌<◌, Bool, true, false, cond, List, [], ◌∷◌, length, get_or}
use Rattle.std.proofs.Common.{Option, Some, None, refl, sym, ap, ◌∙◌, arith}
use Rattle.std.specs.Prelude.{◌||◌, drop}
use Rattle.std.specs.List.{list_any, position_from}

module _ {X : Type 0} (p : X → Bool) where
  -- what is left to be looked through, from a place on
  abbrev pub sought_from : ℕ → List X → Option ℕ
  sought_from i xs = position_from p i (drop i xs)

  found_at : (xs : List X) (i k : ℕ) (x : X) → i < length xs → p (get_or xs i x) ≡ true → position_from p k (drop i xs)
      ≡ Some k
  found_at [] i k x few is = absurd (omega (arith, few))
  found_at (y ∷ ys) zero k x few is = ap (λ b. cond b (Some k) (position_from p (k + 1) ys)) is
  found_at (y ∷ ys) (suc i) k x few is = found_at ys i k x (omega (arith, few)) is

  passed_at : (xs : List X) (i k : ℕ) (x : X) → i < length xs → p (get_or xs i x) ≡ false
      → position_from p k (drop i xs) ≡ position_from p (k + 1) (drop (suc i) xs)
  passed_at [] i k x few is = absurd (omega (arith, few))
  passed_at (y ∷ ys) zero k x few is = ap (λ b. cond b (Some k) (position_from p (k + 1) ys)) is
  passed_at (y ∷ ys) (suc i) k x few is = passed_at ys i k x (omega (arith, few)) is

  pub found_here : (xs : List X) (i : ℕ) (x : X) → i < length xs → p (get_or xs i x) ≡ true → Some i ≡ sought_from i xs
  found_here xs i x few is = sym (found_at xs i i x few is)

  pub passed_here : (xs : List X) (i : ℕ) (x : X) → i < length xs → p (get_or xs i x) ≡ false → sought_from i xs
      ≡ sought_from (i + 1) xs
  passed_here xs i x few is = let next : suc i ≡ i + 1 = omega arith in passed_at xs i i x few is
      ∙ ap (λ n. position_from p (i + 1) (drop n xs)) next

  pub found_nowhere : (xs : List X) (i : ℕ) → i ≡ length xs → None ≡ sought_from i xs
  found_nowhere [] zero is = refl
  found_nowhere [] (suc i) is = absurd (omega (arith, is))
  found_nowhere (y ∷ ys) zero is = absurd (omega (arith, is))
  found_nowhere (y ∷ ys) (suc i) is = nowhere ys i (suc i) (omega (arith, is))
    where
      nowhere : (xs : List X) (i k : ℕ) → i ≡ length xs → None ≡ position_from p k (drop i xs)
      nowhere [] zero k is = refl
      nowhere [] (suc i) k is = absurd (omega (arith, is))
      nowhere (y ∷ ys) zero k is = absurd (omega (arith, is))
      nowhere (y ∷ ys) (suc i) k is = nowhere ys i k (omega (arith, is))

  pub holds_here : (xs : List X) (i : ℕ) (x : X) → i < length xs → p (get_or xs i x) ≡ true → true
      ≡ list_any p (drop i xs)
  holds_here [] i x few is = absurd (omega (arith, few))
  holds_here (y ∷ ys) zero x few is = sym (ap (λ b. b || list_any p ys) is)
  holds_here (y ∷ ys) (suc i) x few is = holds_here ys i x (omega (arith, few)) is

  holds_behind : (xs : List X) (i : ℕ) (x : X) → i < length xs → p (get_or xs i x) ≡ false → list_any p (drop i xs)
      ≡ list_any p (drop (suc i) xs)
  holds_behind [] i x few is = absurd (omega (arith, few))
  holds_behind (y ∷ ys) zero x few is = ap (λ b. b || list_any p ys) is
  holds_behind (y ∷ ys) (suc i) x few is = holds_behind ys i x (omega (arith, few)) is

  pub holds_further : (xs : List X) (i : ℕ) (x : X) → i < length xs → p (get_or xs i x) ≡ false
      → list_any p (drop i xs) ≡ list_any p (drop (i + 1) xs)
  holds_further xs i x few is = let next : suc i ≡ i + 1 = omega arith in holds_behind xs i x few is
      ∙ ap (λ n. list_any p (drop n xs)) next

  pub holds_nowhere : (xs : List X) (i : ℕ) → i ≡ length xs → false ≡ list_any p (drop i xs)
  holds_nowhere [] zero is = refl
  holds_nowhere [] (suc i) is = absurd (omega (arith, is))
  holds_nowhere (y ∷ ys) zero is = absurd (omega (arith, is))
  holds_nowhere (y ∷ ys) (suc i) is = holds_nowhere ys i (omega (arith, is))

-- What a search finds in a list of which one entry changes.
use Rattle.std.proofs.Common.{◌≡◌, ℕ, zero, suc, ◌+◌, Bool, true, false, cond, List, [], ◌∷◌, ◌++◌, set, slice_get}
use Rattle.std.proofs.Common.{Some, None, is_some, refl, ap, ◌∙◌}
use Rattle.std.specs.Prelude.{◌||◌, find, option_map, remove}
use Rattle.std.specs.List.{AllByRecursion, list_any, position_from}
use Rattle.std.proofs.lemmas.List.Folds.{find_past}
use Rattle.std.proofs.lemmas.Option.{get_or_from_slice_get}

module _ {X : Type 0} (p : X → Bool) where
  pub no_place : (n : ℕ) (xs : List X) → find p xs ≡ None → position_from p n xs ≡ None
  no_place n [] h = refl
  no_place n (x ∷ xs) h = go (p x) (λ g. no_place (n + 1) xs g) h
    where
      go : (b : Bool) → (find p xs ≡ None → position_from p (n + 1) xs ≡ None) → cond b (Some x) (find p xs) ≡ None
          → cond b (Some n) (position_from p (n + 1) xs) ≡ None
      go true ih g = absurd (cc)
      go false ih g = ih g

  -- a place is found just if some entry passes
  pub some_place : (n : ℕ) (xs : List X) → is_some (position_from p n xs) ≡ list_any p xs
  some_place n [] = refl
  some_place n (x ∷ xs) = go (p x) (some_place (n + 1) xs)
    where
      go : (b : Bool) → is_some (position_from p (n + 1) xs) ≡ list_any p xs
          → is_some (cond b (Some n) (position_from p (n + 1) xs)) ≡ (b || list_any p xs)
      go true ih = refl
      go false ih = ih

  -- an entry that does not pass comes, goes, or is put in the place of another
  pub find_pushed : (xs : List X) (x : X) → p x ≡ false → find p (xs ++ x ∷ []) ≡ find p xs
  find_pushed [] x misses = rw misses refl
  find_pushed (y ∷ ys) x misses = ap (λ o. cond (p y) (Some y) o) (find_pushed ys x misses)

  pub find_removed : (xs : List X) (i : ℕ) (x : X) → slice_get xs i ≡ Some x → p x ≡ false
      → find p (remove xs i) ≡ find p xs
  find_removed [] i x at misses = absurd (cc)
  find_removed (y ∷ ys) zero x at misses = let here : y ≡ x = cc in rw (here, misses) refl
  find_removed (y ∷ ys) (suc i) x at misses = ap (λ o. cond (p y) (Some y) o) (find_removed ys i x at misses)

  pub find_missed : (xs : List X) (i : ℕ) (x y : X) → slice_get xs i ≡ Some x → p x ≡ false → p y ≡ false
      → find p (set xs i y) ≡ find p xs
  find_missed xs i x y at old new = find_past p xs i y x (ap p (get_or_from_slice_get xs i x x at) ∙ old) new

  -- an entry that passes is put in the place of another, and no other passes
  pub find_only : (xs : List X) (i : ℕ) (x y : X) → slice_get xs i ≡ Some x → find p xs ≡ None → p y ≡ true
      → find p (set xs i y) ≡ Some y
  find_only [] i x y at none passes = absurd (cc)
  find_only (z ∷ zs) zero x y at none passes = rw passes refl
  find_only (z ∷ zs) (suc i) x y at none passes = go (p z) (λ g. find_only zs i x y at g passes) none
    where
      go : (b : Bool) → (find p zs ≡ None → find p (set zs i y) ≡ Some y) → cond b (Some z) (find p zs) ≡ None
          → cond b (Some z) (find p (set zs i y)) ≡ Some y
      go true ih g = absurd (cc)
      go false ih g = ih g

  -- an entry is put in the place of one that passes as it does
  pub find_alike : {Y : Type 0} (f : X → Y) (xs : List X) (i : ℕ) (x y : X) → slice_get xs i ≡ Some x → p y ≡ p x
      → f y ≡ f x → option_map f (find p (set xs i y)) ≡ option_map f (find p xs)
  find_alike f [] i x y at alike same = absurd (cc)
  find_alike f (z ∷ zs) zero x y at alike same =
      let here : z ≡ x = cc in rw (here, alike) (go (p x))
    where
      go : (b : Bool) → option_map f (cond b (Some y) (find p zs)) ≡ option_map f (cond b (Some x) (find p zs))
      go true = ap Some same
      go false = refl
  find_alike f (z ∷ zs) (suc i) x y at alike same = go (p z) (find_alike f zs i x y at alike same)
    where
      go : (b : Bool) → option_map f (find p (set zs i y)) ≡ option_map f (find p zs)
          → option_map f (cond b (Some z) (find p (set zs i y))) ≡ option_map f (cond b (Some z) (find p zs))
      go true ih = refl
      go false ih = ih

  pub none_found : (xs : List X) → AllByRecursion (λ x. p x ≡ false) xs → find p xs ≡ None
  none_found [] h = refl
  none_found (x ∷ xs) h = rw h.0 (none_found xs h.1)

-- ---- walks over the places of a list

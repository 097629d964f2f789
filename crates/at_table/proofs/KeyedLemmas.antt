-- Values that have their keys in themselves, beside the list of these keys.
use Rattle.std.proofs.Common.{◌≡◌, ℕ, zero, suc, ◌+◌, ◌++◌, Bool, List, [], ◌∷◌, map, set, slice_get}
use Rattle.std.proofs.Common.{Some, refl, sym, ap, ◌∙◌}
use Rattle.std.specs.Prelude.{find, remove}
use Rattle.std.specs.List.{position_from}
use Rattle.std.proofs.lemmas.List.{map_push}
use Rattle.at_table.specs.Rows.{IsSameTest, found}

module _ {K V : Type 0} (key_of : V → K) where
  -- what finds a key finds its value
  pub position_of : (t : K → Bool) (p : V → Bool) → IsSameTest key_of t p → (n : ℕ) (xs : List V)
      → position_from t n (map key_of xs) ≡ position_from p n xs
  position_of t p same n [] = refl
  position_of t p same n (x ∷ xs) = rw (same x, position_of t p same (n + 1) xs) refl

  pub value_of : (t : K → Bool) (p : V → Bool) → IsSameTest key_of t p → (xs : List V)
      → found t (map key_of xs) xs ≡ find p xs
  value_of t p same [] = refl
  value_of t p same (x ∷ xs) = rw (same x, value_of t p same xs) refl

  -- a value that changes under its key leaves the keys
  pub keys_set : (xs : List V) (i : ℕ) (old new : V) → slice_get xs i ≡ Some old → key_of new ≡ key_of old
      → map key_of xs ≡ map key_of (set xs i new)
  keys_set [] i old new at same = absurd (cc)
  keys_set (x ∷ xs) zero old new at same =
      let here : x ≡ old = cc in ap (λ k. k ∷ map key_of xs) (ap key_of here ∙ sym same)
  keys_set (x ∷ xs) (suc i) old new at same = ap (λ ks. key_of x ∷ ks) (keys_set xs i old new at same)

  keys_remove : (xs : List V) (i : ℕ) → remove (map key_of xs) i ≡ map key_of (remove xs i)
  keys_remove [] zero = refl
  keys_remove [] (suc i) = refl
  keys_remove (x ∷ xs) zero = refl
  keys_remove (x ∷ xs) (suc i) = ap (λ ks. key_of x ∷ ks) (keys_remove xs i)

  -- so keys and values go together when an entry is put in or removed
  pub keyed_push : (ks later : List K) (xs more : List V) (k : K) (x : V) → later ≡ ks ++ k ∷ []
      → more ≡ xs ++ x ∷ [] → ks ≡ map key_of xs → key_of x ≡ k → later ≡ map key_of more
  keyed_push ks later xs more k x keys items same its = keys ∙ ap (λ l. l ++ k ∷ []) same
      ∙ ap (λ y. map key_of xs ++ y ∷ []) (sym its) ∙ sym (map_push key_of xs x) ∙ ap (map key_of) (sym items)

  pub keyed_remove : (ks later : List K) (xs rest : List V) (i : ℕ) → later ≡ remove ks i → rest ≡ remove xs i
      → ks ≡ map key_of xs → later ≡ map key_of rest
  keyed_remove ks later xs rest i keys items same =
      keys ∙ ap (λ l. remove l i) same ∙ keys_remove xs i ∙ ap (map key_of) (sym items)

-- Fronts of lists, and what is left of them.
use Rattle.std.proofs.Common.{◌≡◌, ℕ, ◌+◌, List, ◌∷◌, length, take, ap, Some, ◌∙◌}
use Rattle.std.specs.Prelude.{drop, slice_get}
use Rattle.std.proofs.lemmas.List.{drop_more, length-take, take_min}
use Rattle.std.proofs.lemmas.Option.{get_or_from_slice_get, slice_get_within}

pub drop_next : {X : Type 0} (xs : List X) (i : ℕ) (x : X) → slice_get xs i ≡ Some x
    → drop i xs ≡ x ∷ drop (i + 1) xs
drop_next xs i x at = drop_more xs i x (slice_get_within xs i x at)
    ∙ ap (λ z. z ∷ drop (i + 1) xs) (get_or_from_slice_get xs i x x at)

pub take_same : {X : Type 0} (n : ℕ) (xs : List X) → take (length (take n xs)) xs ≡ take n xs
take_same n xs = ap (λ m. take m xs) (length-take n xs) ∙ take_min n xs

-- Lists that are made place by place.
use Rattle.std.proofs.Common.{◌≡◌, ℕ, zero, suc, ◌+◌, ◌<◌, List, [], ◌∷◌, ◌++◌, map, drop, length, Option, Some, None}
use Rattle.std.proofs.Common.{refl, sym, ap, ◌∙◌, arith, append_assoc}
use Rattle.std.specs.Prelude.{IfSome, slice_get, filter_map}
use Rattle.std.specs.List.{cons_option}
use Rattle.at_ddp.proofs.ListLemmas.{drop_next}

place_is : {X : Type 0} (P : X → Type 0) (xs : List X) (i : ℕ) → i < length xs → IfSome (slice_get xs i) P → (x : X)
    × (slice_get xs i ≡ Some x) × P x
place_is P [] i lt h = absurd (omega (arith, lt))
place_is P (x ∷ xs) zero lt h = (x, refl, h)
place_is P (x ∷ xs) (suc i) lt h = place_is P xs i (omega (arith, lt)) h

-- the next of the values that are seen of a list
pub map_next : {X Y Z : Type 0} (h : Y → Z) (g : X → Y) (old : List Z) (xs : List X) (i : ℕ) (y : Y) → i < length xs
    → IfSome (slice_get xs i) (λ x. y ≡ g x)
    → old ++ h y ∷ [] ++ map (λ x. h (g x)) (drop (i + 1) xs) ≡ old ++ map (λ x. h (g x)) (drop i xs)
map_next {X} h g old xs i y lt is =
    let p = place_is (λ x. y ≡ g x) xs i lt is in
    append_assoc old (h y ∷ []) (map (λ x. h (g x)) (drop (i + 1) xs))
    ∙ ap (λ z. old ++ h z ∷ map (λ x. h (g x)) (drop (i + 1) xs)) p.2
    ∙ sym (ap (λ (zs : List X). old ++ map (λ x. h (g x)) zs) (drop_next xs i p.0 p.1))

cons_one : {X : Type 0} (o : Option X) (xs : List X) → cons_option o [] ++ xs ≡ cons_option o xs
cons_one None xs = refl
cons_one (Some x) xs = refl

-- the same where only some are seen
pub filter_next : {X Y Z : Type 0} (h : Y → Option Z) (g : X → Y) (old : List Z) (xs : List X) (i : ℕ) (y : Y)
    → i < length xs → IfSome (slice_get xs i) (λ x. y ≡ g x)
    → old ++ cons_option (h y) [] ++ filter_map (λ x. h (g x)) (drop (i + 1) xs)
    ≡ old ++ filter_map (λ x. h (g x)) (drop i xs)
filter_next {X} h g old xs i y lt is =
    let p = place_is (λ x. y ≡ g x) xs i lt is in
    append_assoc old (cons_option (h y) []) (filter_map (λ x. h (g x)) (drop (i + 1) xs))
    ∙ ap (λ zs. old ++ zs) (cons_one (h y) (filter_map (λ x. h (g x)) (drop (i + 1) xs)))
    ∙ ap (λ z. old ++ cons_option (h z) (filter_map (λ x. h (g x)) (drop (i + 1) xs))) p.2
    ∙ sym (ap (λ (zs : List X). old ++ filter_map (λ x. h (g x)) zs) (drop_next xs i p.0 p.1))

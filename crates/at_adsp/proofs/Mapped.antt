-- What is found in a list, each entry of which is seen in another way.
use Rattle.std.proofs.Common.{◌≡◌, ℕ, zero, suc, Bool, true, false, cond, List, [], ◌∷◌, length, map, Option, Some}
use Rattle.std.proofs.Common.{None, refl, ap, ◌∙◌}
use Rattle.std.specs.Prelude.{find, slice_get, ◌&&◌, ◌||◌}
use Rattle.std.specs.List.{list_all, list_any}
use Rattle.at_ddp.specs.Tables.{replaced, without_first}

abbrev pub mapped : {X Y : Type 0} → (X → Y) → Option X → Option Y
mapped f None = None
mapped f (Some x) = Some (f x)

-- a test that does not tell the two apart
pub find_mapped : {X Y : Type 0} (f : X → Y) (p : X → Bool) (q : Y → Bool) → ((x : X) → q (f x) ≡ p x) → (xs : List X)
    → find q (map f xs) ≡ mapped f (find p xs)
find_mapped f p q same [] = refl
find_mapped f p q same (x ∷ xs) = ap (λ b. cond b (Some (f x)) (find q (map f xs))) (same x)
    ∙ go (find_mapped f p q same xs) (p x)
  where
    go : find q (map f xs) ≡ mapped f (find p xs) → (b : Bool) → cond b (Some (f x)) (find q (map f xs))
        ≡ mapped f (cond b (Some x) (find p xs))
    go ih true = refl
    go ih false = ih

pub replaced_mapped : {X Y : Type 0} (f : X → Y) (p : X → Bool) (q : Y → Bool) → ((x : X) → q (f x) ≡ p x)
    → (y : X) (xs : List X) → replaced q (f y) (map f xs) ≡ map f (replaced p y xs)
replaced_mapped f p q same y [] = refl
replaced_mapped f p q same y (x ∷ xs) = ap (λ b. cond b (f y ∷ map f xs) (f x ∷ replaced q (f y) (map f xs))) (same x)
    ∙ go (replaced_mapped f p q same y xs) (p x)
  where
    go : replaced q (f y) (map f xs) ≡ map f (replaced p y xs) → (b : Bool)
        → cond b (f y ∷ map f xs) (f x ∷ replaced q (f y) (map f xs)) ≡ map f (cond b (y ∷ xs) (x ∷ replaced p y xs))
    go ih true = refl
    go ih false = ap (λ l. f x ∷ l) ih

pub without_mapped : {X Y : Type 0} (f : X → Y) (p : X → Bool) (q : Y → Bool) → ((x : X) → q (f x) ≡ p x)
    → (xs : List X) → without_first q (map f xs) ≡ map f (without_first p xs)
without_mapped f p q same [] = refl
without_mapped f p q same (x ∷ xs) = ap (λ b. cond b (map f xs) (f x ∷ without_first q (map f xs))) (same x)
    ∙ go (without_mapped f p q same xs) (p x)
  where
    go : without_first q (map f xs) ≡ map f (without_first p xs) → (b : Bool)
        → cond b (map f xs) (f x ∷ without_first q (map f xs)) ≡ map f (cond b xs (x ∷ without_first p xs))
    go ih true = refl
    go ih false = ap (λ l. f x ∷ l) ih

pub any_mapped : {X Y : Type 0} (f : X → Y) (p : X → Bool) (q : Y → Bool) → ((x : X) → q (f x) ≡ p x) → (xs : List X)
    → list_any q (map f xs) ≡ list_any p xs
any_mapped f p q same [] = refl
any_mapped f p q same (x ∷ xs) = λ i. same x i || any_mapped f p q same xs i

pub each_mapped : {X Y : Type 0} (f : X → Y) (p : X → Bool) (q : Y → Bool) → ((x : X) → q (f x) ≡ p x) → (xs : List X)
    → list_all q (map f xs) ≡ list_all p xs
each_mapped f p q same [] = refl
each_mapped f p q same (x ∷ xs) = λ i. same x i && each_mapped f p q same xs i

pub length_mapped : {X Y : Type 0} (f : X → Y) (xs : List X) → length (map f xs) ≡ length xs
length_mapped f [] = refl
length_mapped f (x ∷ xs) = ap suc (length_mapped f xs)

pub get_mapped : {X Y : Type 0} (f : X → Y) (xs : List X) (i : ℕ) → slice_get (map f xs) i ≡ mapped f (slice_get xs i)
get_mapped f [] i = refl
get_mapped f (x ∷ xs) zero = refl
get_mapped f (x ∷ xs) (suc i) = get_mapped f xs i

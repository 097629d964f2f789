-- How long lists are, with an entry less or another in its place, and how many tests their entries pass.
use Rattle.std.proofs.Common.{◌≡◌, ℕ, zero, suc, ◌+◌, ◌<◌, ◌≤◌, Bool, true, false, cond, List, [], ◌∷◌, length, refl}
use Rattle.std.proofs.Common.{ap, arith}
use Rattle.std.specs.Prelude.{◌||◌}
use Rattle.std.specs.List.{list_any}
use Rattle.at_ddp.specs.Tables.{replaced, without_first}

pub length_without : {X : Type 0} (p : X → Bool) (xs : List X) → length (without_first p xs) ≤ length xs
length_without p [] = omega arith
length_without p (x ∷ xs) = go (length_without p xs) (p x)
  where
    go : length (without_first p xs) ≤ length xs → (b : Bool)
        → length (cond b xs (x ∷ without_first p xs)) ≤ length (x ∷ xs)
    go ih true = omega arith
    go ih false = omega (arith, ih)

pub length_replaced : {X : Type 0} (p : X → Bool) (y : X) (xs : List X) → length (replaced p y xs) ≡ length xs
length_replaced p y [] = refl
length_replaced p y (x ∷ xs) = go (length_replaced p y xs) (p x)
  where
    go : length (replaced p y xs) ≡ length xs → (b : Bool)
        → length (cond b (y ∷ xs) (x ∷ replaced p y xs)) ≡ length (x ∷ xs)
    go ih true = refl
    go ih false = ap suc ih

-- a list without an entry that passes is shorter by one
pub shorter : {X : Type 0} (p : X → Bool) (xs : List X) → list_any p xs ≡ true
    → length (without_first p xs) + 1 ≡ length xs
shorter p [] h = absurd cc
shorter {X} p (x ∷ xs) h = go (λ g. shorter p xs g) (p x) refl h
  where
    go : (list_any p xs ≡ true → length (without_first p xs) + 1 ≡ length xs) → (b : Bool) → p x ≡ b
        → (b || list_any p xs) ≡ true → length (without_first p (x ∷ xs)) + 1 ≡ length (x ∷ xs)
    go ih true is g = rw is (omega arith)
    go ih false is g = rw is (omega (arith, ih g))

-- what passes another test stays
stays : {X : Type 0} (p q : X → Bool) (xs : List X) → ((x : X) → p x ≡ true → q x ≡ false) → list_any q xs ≡ true
    → list_any q (without_first p xs) ≡ true
stays p q [] apart h = h
stays {X} p q (x ∷ xs) apart h = go (λ g. stays p q xs apart g) (p x) refl (q x) refl h
  where
    go : (list_any q xs ≡ true → list_any q (without_first p xs) ≡ true) → (b : Bool) → p x ≡ b → (d : Bool)
        → q x ≡ d → (d || list_any q xs) ≡ true → list_any q (without_first p (x ∷ xs)) ≡ true
    go ih true is true also g = absurd (cc (apart x is))
    go ih true is false also g = rw is g
    go ih false is true also g = rw (is, also) refl
    go ih false is false also g = rw (is, also) (ih g)

-- Tests that no entry passes two of: if each is passed by some entry, there are at least as many entries as tests.
pub tests_in_use : {X : Type 0} (test : ℕ → X → Bool) (bound : ℕ)
    → ((m n : ℕ) (x : X) → m < n → n < bound → test n x ≡ true → test m x ≡ false)
    → (count : ℕ) (xs : List X) → count ≤ bound → ((n : ℕ) → n < count → list_any (test n) xs ≡ true)
    → count ≤ length xs
tests_in_use test bound apart zero xs few used = omega arith
tests_in_use test bound apart (suc count) xs few used =
    let here = used count (omega arith) in
    let fewer = shorter (test count) xs here in
    let rest = tests_in_use test bound apart count (without_first (test count) xs) (omega (arith, few))
    (λ n lt. stays (test count) (test n) xs (λ x h. apart n count x lt (omega (arith, few)) h)
    (used n (omega (arith, lt)))) in
    omega (arith, fewer, rest)

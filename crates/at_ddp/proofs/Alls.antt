-- What holds of each entry of a list.
use Rattle.std.proofs.Common.{◌≡◌, ℕ, zero, suc, Bool, true, false, cond, List, [], ◌∷◌, ◌++◌, Some, None, refl, subst}
use Rattle.std.specs.Prelude.{◌||◌, find, slice_get, map, take, drop}
use Rattle.std.specs.List.{AllByRecursion, list_any}
use Rattle.std.proofs.lemmas.Bool.{true≢false}
use Rattle.at_ddp.specs.Tables.{replaced, without_first}

pub all_implied : {X : Type 0} (P Q : X → Type 0) (xs : List X) → ((x : X) → P x → Q x) → AllByRecursion P xs
    → AllByRecursion Q xs
all_implied P Q [] f h = tt
all_implied P Q (x ∷ xs) f h = (f x h.0, all_implied P Q xs f h.1)

pub all_pairs : {X : Type 0} (P Q : X → Type 0) (xs : List X) → AllByRecursion P xs → AllByRecursion Q xs
    → AllByRecursion (λ x. P x × Q x) xs
all_pairs P Q [] a b = tt
all_pairs P Q (x ∷ xs) a b = ((a.0, b.0), all_pairs P Q xs a.1 b.1)

pub all_both : {X : Type 0} (P : X → Type 0) (xs ys : List X) → AllByRecursion P xs → AllByRecursion P ys
    → AllByRecursion P (xs ++ ys)
all_both P [] ys a b = b
all_both P (x ∷ xs) ys a b = (a.0, all_both P xs ys a.1 b)

pub all_mapped : {X Y : Type 0} (f : X → Y) (P : Y → Type 0) (xs : List X) → AllByRecursion (λ x. P (f x)) xs
    → AllByRecursion P (map f xs)
all_mapped f P [] h = tt
all_mapped f P (x ∷ xs) h = (h.0, all_mapped f P xs h.1)

pub all_replaced : {X : Type 0} (P : X → Type 0) (p : X → Bool) (y : X) (xs : List X) → AllByRecursion P xs → P y
    → AllByRecursion P (replaced p y xs)
all_replaced P p y [] h is = tt
all_replaced P p y (x ∷ xs) h is = go (all_replaced P p y xs h.1 is) (p x)
  where
    go : AllByRecursion P (replaced p y xs) → (b : Bool) → AllByRecursion P (cond b (y ∷ xs) (x ∷ replaced p y xs))
    go ih true = (is, h.1)
    go ih false = (h.0, ih)

pub all_without : {X : Type 0} (P : X → Type 0) (p : X → Bool) (xs : List X) → AllByRecursion P xs
    → AllByRecursion P (without_first p xs)
all_without P p [] h = tt
all_without P p (x ∷ xs) h = go (all_without P p xs h.1) (p x)
  where
    go : AllByRecursion P (without_first p xs) → (b : Bool) → AllByRecursion P (cond b xs (x ∷ without_first p xs))
    go ih true = h.1
    go ih false = (h.0, ih)

pub all_at : {X : Type 0} (P : X → Type 0) (xs : List X) (i : ℕ) (x : X) → AllByRecursion P xs → slice_get xs i
    ≡ Some x → P x
all_at P [] i x h is = absurd (cc)
all_at P (y ∷ ys) zero x h is = let same : y ≡ x = cc in subst P same h.0
all_at P (y ∷ ys) (suc i) x h is = all_at P ys i x h.1 is

-- what is found passes the test
pub all_found : {X : Type 0} (P : X → Type 0) (p : X → Bool) (xs : List X) (x : X) → AllByRecursion P xs → find p xs
    ≡ Some x → P x × (p x ≡ true)
all_found P p [] x h is = absurd (cc)
all_found {X} P p (y ∷ ys) x h is = go (λ g. all_found P p ys x h.1 g) (p y) refl is
  where
    go : (find p ys ≡ Some x → P x × (p x ≡ true)) → (b : Bool) → p y ≡ b → cond b (Some y) (find p ys) ≡ Some x → P x
        × (p x ≡ true)
    go ih true e g = let same : y ≡ x = cc in (subst P same h.0, subst (λ z. p z ≡ true) same e)
    go ih false e g = ih g

-- what is not found fails the test, and so does each entry
pub none_passes : {X : Type 0} (P : X → Type 0) (p : X → Bool) (xs : List X) → find p xs ≡ None → AllByRecursion P xs
    → AllByRecursion (λ x. P x × (p x ≡ false)) xs
none_passes P p [] is h = tt
none_passes P p (x ∷ xs) is h = go (λ g. none_passes P p xs g h.1) (p x) refl is
  where
    go : (find p xs ≡ None → AllByRecursion (λ y. P y × (p y ≡ false)) xs) → (b : Bool) → p x ≡ b
        → cond b (Some x) (find p xs) ≡ None → AllByRecursion (λ y. P y × (p y ≡ false)) (x ∷ xs)
    go ih true e g = absurd (cc)
    go ih false e g = ((h.0, e), ih g)

pub found_passes : {X : Type 0} (p : X → Bool) (xs : List X) (x : X) → find p xs ≡ Some x → p x ≡ true
found_passes p [] x is = absurd (cc)
found_passes {X} p (y ∷ ys) x is = go (λ g. found_passes p ys x g) (p y) refl is
  where
    go : (find p ys ≡ Some x → p x ≡ true) → (b : Bool) → p y ≡ b → cond b (Some y) (find p ys) ≡ Some x → p x ≡ true
    go ih true e g = let same : y ≡ x = cc in subst (λ z. p z ≡ true) same e
    go ih false e g = ih g

pub all_taken : {X : Type 0} (P : X → Type 0) (n : ℕ) (xs : List X) → AllByRecursion P xs → AllByRecursion P (take n xs)
all_taken P zero xs h = tt
all_taken P (suc n) [] h = tt
all_taken P (suc n) (x ∷ xs) h = (h.0, all_taken P n xs h.1)

pub all_dropped : {X : Type 0} (P : X → Type 0) (n : ℕ) (xs : List X) → AllByRecursion P xs
    → AllByRecursion P (drop n xs)
all_dropped P zero xs h = h
all_dropped P (suc n) [] h = tt
all_dropped P (suc n) (x ∷ xs) h = all_dropped P n xs h.1

-- ---- lists without an entry that passes

pub none_any : {X : Type 0} (p : X → Bool) (xs : List X) → list_any p xs ≡ false → AllByRecursion (λ x. p x ≡ false) xs
none_any p [] h = tt
none_any {X} p (x ∷ xs) h = go (λ g. none_any p xs g) (p x) refl h
  where
    go : (list_any p xs ≡ false → AllByRecursion (λ y. p y ≡ false) xs) → (b : Bool) → p x ≡ b
        → (b || list_any p xs) ≡ false → AllByRecursion (λ y. p y ≡ false) (x ∷ xs)
    go ih true e g = absurd (true≢false g)
    go ih false e g = (e, ih g)

pub none_met : {X : Type 0} (p : X → Bool) (xs : List X) → find p xs ≡ None → AllByRecursion (λ x. p x ≡ false) xs
none_met p [] h = tt
none_met {X} p (x ∷ xs) h = go (λ g. none_met p xs g) (p x) refl h
  where
    go : (find p xs ≡ None → AllByRecursion (λ y. p y ≡ false) xs) → (b : Bool) → p x ≡ b
        → cond b (Some x) (find p xs) ≡ None → AllByRecursion (λ y. p y ≡ false) (x ∷ xs)
    go ih true e g = absurd (cc)
    go ih false e g = (e, ih g)

-- an entry that passes, behind those that do not, is the first
pub find_last : {X : Type 0} (p : X → Bool) (xs : List X) (x : X) → find p xs ≡ None → p x ≡ true
    → find p (xs ++ x ∷ []) ≡ Some x
find_last p [] x h passes = rw passes refl
find_last {X} p (y ∷ ys) x h passes = go (λ g. find_last p ys x g passes) (p y) refl h
  where
    go : (find p ys ≡ None → find p (ys ++ x ∷ []) ≡ Some x) → (b : Bool) → p y ≡ b
        → cond b (Some y) (find p ys) ≡ None → find p (y ∷ ys ++ x ∷ []) ≡ Some x
    go ih true e g = absurd (cc)
    go ih false e g = rw e (ih g)

-- Lists whose entries differ, after one of them changed.
use Rattle.std.proofs.Common.{◌≡◌, ℕ, zero, suc, ◌<◌, Bool, true, false, List, [], ◌∷◌, length, get_or}
use Rattle.std.proofs.Common.{set, refl, sym, ap, subst, ◌∙◌, arith}
use Rattle.std.specs.Prelude.{remove}
use Rattle.std.specs.List.{AllByRecursion, IsDistinct}
use Rattle.at_ddp.specs.Tables.{replaced, without_first}

-- an entry stands at this place
pub record Stands {X : Type 0} (xs : List X) (i : ℕ) (entry : X) : Type 0 where
  pub within : i < length xs
  pub at : (d : X) → get_or xs i d ≡ entry

pub stands_next : {X : Type 0} (x : X) (xs : List X) (i : ℕ) (e : X) → Stands (x ∷ xs) (suc i) e → Stands xs i e
stands_next x xs i e s = record { within = let w = s.within in omega (arith, w); at = s.at }

-- ---- all entries

pub all_set : {X : Type 0} (P : X → Type 0) (xs : List X) (i : ℕ) (y : X) → AllByRecursion P xs → P y
    → AllByRecursion P (set xs i y)
all_set P [] i y h is = tt
all_set P (x ∷ xs) zero y h is = (is, h.1)
all_set P (x ∷ xs) (suc i) y h is = (h.0, all_set P xs i y h.1 is)

pub all_stands : {X : Type 0} (P : X → Type 0) (xs : List X) (i : ℕ) (e : X) → AllByRecursion P xs → Stands xs i e → P e
all_stands P [] i e h s = absurd (let w = s.within in omega (arith, w))
all_stands P (x ∷ xs) zero e h s = subst P (s.at x) h.0
all_stands P (x ∷ xs) (suc i) e h s = all_stands P xs i e h.1 (stands_next x xs i e s)

-- ---- entries that differ

all_same : {X : Type 0} (p q : X → Bool) (xs : List X) → ((x : X) → q x ≡ p x) → AllByRecursion (λ x. p x ≡ false) xs
    → AllByRecursion (λ x. q x ≡ false) xs
all_same p q [] f h = tt
all_same p q (x ∷ xs) f h = (f x ∙ h.0, all_same p q xs f h.1)

-- the new entry is told apart as the old one is
pub differ_set : {X : Type 0} (same : X → X → Bool) (xs : List X) (i : ℕ) (e y : X) → ((x : X) → same y x ≡ same e x)
    → ((x : X) → same x y ≡ same x e) → Stands xs i e → IsDistinct same xs → IsDistinct same (set xs i y)
unfolding IsDistinct
differ_set same [] i e y f g s h = tt
differ_set same (x ∷ xs) zero e y f g s h =
    (all_same (same x) (same y) xs (λ z. f z ∙ ap (λ w. same w z) (sym (s.at x))) h.0, h.1)
differ_set same (x ∷ xs) (suc i) e y f g s h =
    let s' = stands_next x xs i e s in (
      all_set (λ z. same x z ≡ false) xs i y h.0 (g x ∙ all_stands (λ z. same x z ≡ false) xs i e h.0 s'),
      differ_set
          same xs i e y f g s' h.1,
    )

-- the new entry is unlike all others
pub differ_new : {X : Type 0} (same : X → X → Bool) (xs : List X) (i : ℕ) (y : X)
    → AllByRecursion (λ x. same y x ≡ false) xs → AllByRecursion (λ x. same x y ≡ false) xs → IsDistinct same xs
    → IsDistinct same (set xs i y)
unfolding IsDistinct
differ_new same [] i y a b h = tt
differ_new same (x ∷ xs) zero y a b h = (a.1, h.1)
differ_new same (x ∷ xs) (suc i) y a b h =
    (all_set (λ z. same x z ≡ false) xs i y h.0 b.0, differ_new same xs i y a.1 b.1 h.1)

-- ---- the entry at a place, by a test that tells it apart

pub set_by : {X : Type 0} (same : X → X → Bool) (p : X → Bool) (xs : List X) (i : ℕ) (e y : X) → p e ≡ true
    → ((x : X) → same x e ≡ false → p x ≡ false) → Stands xs i e → IsDistinct same xs → replaced p y xs ≡ set xs i y
unfolding IsDistinct
set_by same p [] i e y is apart s h = refl
set_by same p (x ∷ xs) zero e y is apart s h = let hit : p x ≡ true = ap p (s.at x) ∙ is in rw hit refl
set_by same p (x ∷ xs) (suc i) e y is apart s h =
    let s' = stands_next x xs i e s in
    let miss : p x ≡ false = apart x (all_stands (λ z. same x z ≡ false) xs i e h.0 s') in
    rw miss (ap (λ l. x ∷ l) (set_by same p xs i e y is apart s' h.1))

pub gone_by : {X : Type 0} (same : X → X → Bool) (p : X → Bool) (xs : List X) (i : ℕ) (e : X) → p e ≡ true
    → ((x : X) → same x e ≡ false → p x ≡ false) → Stands xs i e → IsDistinct same xs → without_first p xs ≡ remove xs i
unfolding IsDistinct
gone_by same p [] i e is apart s h = absurd (let w = s.within in omega (arith, w))
gone_by same p (x ∷ xs) zero e is apart s h = let hit : p x ≡ true = ap p (s.at x) ∙ is in rw hit refl
gone_by same p (x ∷ xs) (suc i) e is apart s h =
    let s' = stands_next x xs i e s in
    let miss : p x ≡ false = apart x (all_stands (λ z. same x z ≡ false) xs i e h.0 s') in
    rw miss (ap (λ l. x ∷ l) (gone_by same p xs i e is apart s' h.1))

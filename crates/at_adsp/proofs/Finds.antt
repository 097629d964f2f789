-- What is found in a list of which one entry is replaced.
use Rattle.std.proofs.Common.{◌≡◌, Bool, true, false, cond, List, [], ◌∷◌, Some, None, refl, sym, ap, subst, ◌∙◌}
use Rattle.std.specs.Prelude.{find, ◌&&◌, ◌||◌}
use Rattle.std.specs.List.{list_all, list_any}
use Rattle.std.proofs.lemmas.Bool.{true≢false}
use Rattle.at_ddp.specs.Tables.{replaced}
use Rattle.std.proofs.lemmas.Option.{same_Some}

-- what is found stays, or grows where it is what is replaced
pub kept_in : {X : Type 0} (G : X → X → Type 0) → ((z : X) → G z z) → (p q : X → Bool) (x y : X) (xs : List X) → G x y
    → q y ≡ q x → find p xs ≡ Some x → (w : X) → find q xs ≡ Some w →
    (u : X) × (find q (replaced p y xs) ≡ Some u) × G w u
kept_in G itself p q x y [] grows same is w there = absurd (cc)
kept_in {X} G itself p q x y (z ∷ zs) grows same is w there = go (λ f g. kept_in G itself p q x y zs grows same f w g)
    (p z) is (q z) refl there
  where
    here : (a b : Bool) → q z ≡ a → q y ≡ b → z ≡ x → cond a (Some z) (find q zs) ≡ Some w → (u : X)
        × (cond b (Some y) (find q zs) ≡ Some u) × G w u
    here true true e f s g = (y, refl, subst (λ v. G v y) (sym s ∙ same_Some z w g) grows)
    here true false e f s g = absurd (true≢false (sym e ∙ ap q s ∙ sym same ∙ f))
    here false true e f s g = absurd (true≢false (sym f ∙ same ∙ ap q (sym s) ∙ e))
    here false false e f s g = (w, g, itself w)

    go : (find p zs ≡ Some x → find q zs ≡ Some w → (u : X) × (find q (replaced p y zs) ≡ Some u) × G w u) →
        (a : Bool) → cond a (Some z) (find p zs) ≡ Some x → (b : Bool) → q z ≡ b → cond b (Some z) (find q zs)
        ≡ Some w →
        (u : X) × (find q (cond a (y ∷ zs) (z ∷ replaced p y zs)) ≡ Some u) × G w u
    go ih true f b e g = here b (q y) e refl (same_Some z x f) g
    go ih false f true e g =
        (z, ap (λ c. cond c (Some z) (find q (replaced p y zs))) e, subst (λ v. G v z) (same_Some z w g) (itself z))
    go ih false f false e g = let more = ih f g in
        (more.0, ap (λ c. cond c (Some z) (find q (replaced p y zs))) e ∙ more.1, more.2)

-- a test that neither what is replaced nor what takes its place passes finds what it found
pub apart_in : {X : Type 0} (p q : X → Bool) (x y : X) (xs : List X) → find p xs ≡ Some x → q x ≡ false → q y ≡ false
    → find q (replaced p y xs) ≡ find q xs
apart_in p q x y [] is a b = refl
apart_in {X} p q x y (z ∷ zs) is a b = go (λ f. apart_in p q x y zs f a b) (p z) is
  where
    go : (find p zs ≡ Some x → find q (replaced p y zs) ≡ find q zs) → (c : Bool) → cond c (Some z) (find p zs)
        ≡ Some x →
        find q (cond c (y ∷ zs) (z ∷ replaced p y zs)) ≡ cond (q z) (Some z) (find q zs)
    go ih true f =
        ap (λ c. cond c (Some y) (find q zs)) b
        ∙ sym (ap (λ c. cond c (Some z) (find q zs)) (ap q (same_Some z x f) ∙ a))
    go ih false f = ap (λ o. cond (q z) (Some z) o) (ih f)

-- a test of all entries that does not tell the two apart
pub all_same : {X : Type 0} (f p : X → Bool) (x y : X) (xs : List X) → f y ≡ f x → find p xs ≡ Some x
    → list_all f (replaced p y xs) ≡ list_all f xs
all_same f p x y [] same is = refl
all_same {X} f p x y (z ∷ zs) same is = go (λ g. all_same f p x y zs same g) (p z) is
  where
    go : (find p zs ≡ Some x → list_all f (replaced p y zs) ≡ list_all f zs) → (c : Bool) → cond c (Some z) (find p zs)
        ≡ Some x →
        list_all f (cond c (y ∷ zs) (z ∷ replaced p y zs)) ≡ (f z && list_all f zs)
    go ih true g = ap (λ c. c && list_all f zs) (same ∙ ap f (sym (same_Some z x g)))
    go ih false g = ap (λ c. f z && c) (ih g)

pub none_finds : {X : Type 0} (p : X → Bool) (xs : List X) → list_any p xs ≡ false → find p xs ≡ None
none_finds p [] h = refl
none_finds {X} p (x ∷ xs) h = go (λ g. none_finds p xs g) (p x) refl h
  where
    go : (list_any p xs ≡ false → find p xs ≡ None) → (b : Bool) → p x ≡ b → (b || list_any p xs) ≡ false
        → find p (x ∷ xs) ≡ None
    go ih true e g = absurd (true≢false g)
    go ih false e g = ap (λ c. cond c (Some x) (find p xs)) e ∙ ih g

-- what takes the place of what is found is found
pub replaced_found : {X : Type 0} (p : X → Bool) (x y : X) (xs : List X) → find p xs ≡ Some x → p y ≡ true
    → find p (replaced p y xs) ≡ Some y
replaced_found p x y [] is passes = absurd (cc)
replaced_found {X} p x y (z ∷ zs) is passes = go (λ f. replaced_found p x y zs f passes) (p z) refl is
  where
    go : (find p zs ≡ Some x → find p (replaced p y zs) ≡ Some y) → (b : Bool) → p z ≡ b → cond b (Some z) (find p zs)
        ≡ Some x → find p (cond b (y ∷ zs) (z ∷ replaced p y zs)) ≡ Some y
    go ih true e f = ap (λ c. cond c (Some y) (find p zs)) passes
    go ih false e f = ap (λ c. cond c (Some z) (find p (replaced p y zs))) e ∙ ih f

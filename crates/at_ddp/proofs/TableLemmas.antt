-- The place of the first entry that passes a test.
use Rattle.std.proofs.Common.{◌≡◌, ℕ, suc, ◌+◌, ◌<◌, Bool, true, false, cond, List, [], ◌∷◌, ◌++◌, length, get_or, set}
use Rattle.std.proofs.Common.{Option, Some, None, refl, sym, ap, subst, ◌∙◌, arith}
use Rattle.std.specs.Prelude.{find, remove}
use Rattle.std.specs.List.{position_from}
use Rattle.std.proofs.lemmas.Bool.{true≢false}
use Rattle.at_ddp.specs.Tables.{replaced, without_first}

-- the first entry that passes stands at i
pub record Found {X : Type 0} (p : X → Bool) (xs : List X) (i : ℕ) : Type 0 where
  pub entry : X
  pub passes : p entry ≡ true
  pub within : i < length xs
  pub at : (d : X) → get_or xs i d ≡ entry
  pub first : find p xs ≡ Some entry
  pub set_is : (y : X) → replaced p y xs ≡ set xs i y
  pub gone_is : without_first p xs ≡ remove xs i

found_next : {X : Type 0} (p : X → Bool) (x : X) (xs : List X) (i : ℕ) → p x ≡ false → Found p xs i
    → Found p (x ∷ xs) (suc i)
found_next p x xs i misses f = record {
  entry = f.entry;
  passes = f.passes;
  within = let w = f.within in omega arith;
  at = f.at;
  first = rw misses f.first;
  set_is = λ y. rw misses (ap (λ l. x ∷ l) (f.set_is y));
  gone_is = rw misses (ap (λ l. x ∷ l) f.gone_is);
}

found_here : {X : Type 0} (p : X → Bool) (x : X) (xs : List X) → p x ≡ true → Found p (x ∷ xs) 0
found_here p x xs hits = record {
  entry = x;
  passes = hits;
  within = omega arith;
  at = λ d. refl;
  first = rw hits refl;
  set_is = λ y. rw hits refl;
  gone_is = rw hits refl;
}

found_from : {X : Type 0} (p : X → Bool) (from : ℕ) (xs : List X) (i : ℕ) → position_from p from xs ≡ Some i → (j : ℕ)
    × (i ≡ from + j) × Found p xs j
found_from p from [] i h = absurd (cc)
found_from {X} p from (x ∷ xs) i h = go (λ g. found_from p (from + 1) xs i g) (p x) refl h
  where
    go : (position_from p (from + 1) xs ≡ Some i → (j : ℕ) × (i ≡ from + 1 + j) × Found p xs j) → (b : Bool) → p x ≡ b
        → cond b (Some from) (position_from p (from + 1) xs) ≡ Some i → (j : ℕ) × (i ≡ from + j) × Found p (x ∷ xs) j
    go ih true is g = let same : from ≡ i = cc in (0, omega arith, found_here p x xs is)
    go ih false is g = let rest = ih g in (suc rest.0, omega (arith, rest.1), found_next p x xs rest.0 is rest.2)

pub found : {X : Type 0} (p : X → Bool) (xs : List X) (i : ℕ) → position_from p 0 xs ≡ Some i → Found p xs i
found p xs i h =
    let f = found_from p 0 xs i h in
    let same : f.0 ≡ i = omega (arith, f.1) in
    subst (Found p xs) same f.2

pub not_found : {X : Type 0} (p : X → Bool) (from : ℕ) (xs : List X) → position_from p from xs ≡ None → find p xs ≡ None
not_found p from [] h = refl
not_found p from (x ∷ xs) h = go (λ g. not_found p (from + 1) xs g) (p x) refl h
  where
    go : (position_from p (from + 1) xs ≡ None → find p xs ≡ None) → (b : Bool) → p x ≡ b
        → cond b (Some from) (position_from p (from + 1) xs) ≡ None → find p (x ∷ xs) ≡ None
    go ih true is g = absurd (cc)
    go ih false is g = rw is (ih g)

-- the same for the result of a search over a copy of the list
pub found_by : {X : Type 0} (p : X → Bool) (xs given : List X) (r : Option ℕ) (i : ℕ) → given ≡ xs → r
    ≡ position_from p 0 given → r ≡ Some i → Found p xs i
found_by p xs given r i same is some = found p xs i (ap (position_from p 0) (sym same) ∙ sym is ∙ some)

-- without an entry that passes, nothing is taken away
pub without_none : {X : Type 0} (p : X → Bool) (xs : List X) → find p xs ≡ None → without_first p xs ≡ xs
without_none p [] h = refl
without_none p (x ∷ xs) h = go (λ g. without_none p xs g) (p x) refl h
  where
    go : (find p xs ≡ None → without_first p xs ≡ xs) → (b : Bool) → p x ≡ b → cond b (Some x) (find p xs) ≡ None
        → without_first p (x ∷ xs) ≡ x ∷ xs
    go ih true is g = absurd (cc)
    go ih false is g = rw is (ap (λ l. x ∷ l) (ih g))

pub none_by : {X : Type 0} (p : X → Bool) (xs given : List X) (r : Option ℕ) → given ≡ xs → r ≡ position_from p 0 given
    → r ≡ None → find p xs ≡ None
none_by p xs given r same is none = not_found p 0 xs (ap (position_from p 0) (sym same) ∙ sym is ∙ none)

-- the only entry that passes is taken away again
pub without_last : {X : Type 0} (p : X → Bool) (xs : List X) (x : X) → find p xs ≡ None → p x ≡ true
    → without_first p (xs ++ x ∷ []) ≡ xs
without_last p [] x none is = rw is refl
without_last {X} p (y ∷ ys) x none is = go (λ g. without_last p ys x g is) (p y) refl none
  where
    go : (find p ys ≡ None → without_first p (ys ++ x ∷ []) ≡ ys) → (b : Bool) → p y ≡ b → cond b (Some y) (find p ys)
        ≡ None → without_first p (y ∷ (ys ++ x ∷ [])) ≡ y ∷ ys
    go ih true e g = absurd (cc)
    go ih false e g = rw e (ap (λ l. y ∷ l) (ih g))

-- where one test finds an entry that passes another, the other finds one
pub found_too : {X : Type 0} (p q : X → Bool) (x : X) (xs : List X) → find q xs ≡ Some x → p x ≡ true → (o : X)
    × (find p xs ≡ Some o)
found_too p q x [] is passes = absurd (cc)
found_too {X} p q x (z ∷ zs) is passes = go (λ f. found_too p q x zs f passes) (p z) refl (q z) is
  where
    go : (find q zs ≡ Some x → (o : X) × (find p zs ≡ Some o)) → (a : Bool) → p z ≡ a → (b : Bool)
        → cond b (Some z) (find q zs) ≡ Some x → (o : X) × (find p (z ∷ zs) ≡ Some o)
    go ih true e b f = (z, ap (λ c. cond c (Some z) (find p zs)) e)
    go ih false e true f = let same : z ≡ x = cc in absurd (true≢false (sym passes ∙ ap p (sym same) ∙ e))
    go ih false e false f = let more = ih f in (more.0, ap (λ c. cond c (Some z) (find p zs)) e ∙ more.1)

-- Which entries are in a list that is made of others, and what a search finds there.
use Rattle.std.proofs.Common.{◌≡◌, ◌≢◌, ℕ, zero, suc, ◌<◌, Bool, true, false, cond, List, [], ◌∷◌, ◌++◌, map, length}
use Rattle.std.proofs.Common.{slice_index_or, find, Contains, Option, Some, None, ◌⊎◌, inl, inr, refl, sym, ap, subst}
use Rattle.std.proofs.Common.{◌∙◌, arith}
use Rattle.std.specs.Prelude.{filter_map}
use Rattle.std.specs.List.{AllByRecursion, IsDistinct}
use Rattle.std.specs.List.{cons_option}
use Rattle.std.proofs.lemmas.Bool.{true≢false}
use Rattle.at_ddp.specs.Tables.{replaced, without_first}

-- it is an entry
abbrev pub There : {X : Type 0} → List X → X → Type 0
There [] x = ⊥
There (y ∷ ys) x = (y ≡ x) ⊎ There ys x

pub there_of : {X : Type 0} (xs : List X) (x : X) → Contains xs x → There xs x
there_of {X} xs x c = at xs c.0 c.1 c.2
  where
    at : (ys : List X) (k : ℕ) → k < length ys → slice_index_or ys k x ≡ x → There ys x
    at [] k lt same = absurd (omega (arith, lt))
    at (y ∷ ys) zero lt same = inl same
    at (y ∷ ys) (suc k) lt same = inr (at ys k (omega (arith, lt)) same)

pub contains_of : {X : Type 0} (xs : List X) (x : X) → There xs x → Contains xs x
contains_of [] x h = absurd h
contains_of (y ∷ ys) x (inl same) = (0, omega arith, same)
contains_of (y ∷ ys) x (inr h) =
    let c = contains_of ys x h in
    let within = c.1 in
    (suc c.0, omega (arith, within), c.2)

pub there_left : {X : Type 0} (xs ys : List X) (x : X) → There xs x → There (xs ++ ys) x
there_left [] ys x h = absurd h
there_left (z ∷ zs) ys x (inl same) = inl same
there_left (z ∷ zs) ys x (inr h) = inr (there_left zs ys x h)

pub there_right : {X : Type 0} (xs ys : List X) (x : X) → There ys x → There (xs ++ ys) x
there_right [] ys x h = h
there_right (z ∷ zs) ys x h = inr (there_right zs ys x h)

pub there_either : {X : Type 0} (xs ys : List X) (x : X) → There (xs ++ ys) x → There xs x ⊎ There ys x
there_either [] ys x h = inr h
there_either (z ∷ zs) ys x (inl same) = inl (inl same)
there_either {X} (z ∷ zs) ys x (inr h) = go (there_either zs ys x h)
  where
    go : There zs x ⊎ There ys x → There (z ∷ zs) x ⊎ There ys x
    go (inl g) = inl (inr g)
    go (inr g) = inr g

-- ---- what is seen of each entry

pub there_seen : {X Y : Type 0} (f : X → Y) (xs : List X) (x : X) → There xs x → There (map f xs) (f x)
there_seen f [] x h = absurd h
there_seen f (y ∷ ys) x (inl same) = inl (ap f same)
there_seen f (y ∷ ys) x (inr h) = inr (there_seen f ys x h)

pub seen_there : {X Y : Type 0} (f : X → Y) (xs : List X) (y : Y) → There (map f xs) y → (x : X) × There xs x
    × (f x ≡ y)
seen_there f [] y h = absurd h
seen_there f (x ∷ xs) y (inl same) = (x, inl refl, same)
seen_there f (x ∷ xs) y (inr h) =
    let more = seen_there f xs y h in
    (more.0, inr more.1, more.2)

pub there_some : {X Y : Type 0} (f : X → Option Y) (xs : List X) (x : X) (y : Y) → There xs x → f x ≡ Some y
    → There (filter_map f xs) y
there_some f [] x y h is = absurd h
there_some {X} {Y} f (z ∷ zs) x y (inl same) is =
    subst (λ (o : Option Y). There (cons_option o (filter_map f zs)) y) (sym (ap f same ∙ is)) (inl refl)
there_some {X} {Y} f (z ∷ zs) x y (inr h) is = go (f z) (there_some f zs x y h is)
  where
    go : (o : Option Y) → There (filter_map f zs) y → There (cons_option o (filter_map f zs)) y
    go None g = g
    go (Some w) g = inr g

pub some_there : {X Y : Type 0} (f : X → Option Y) (xs : List X) (y : Y) → There (filter_map f xs) y → (x : X)
    × There xs x × (f x ≡ Some y)
some_there f [] y h = absurd h
some_there {X} {Y} f (z ∷ zs) y h = go (f z) refl h (λ g. some_there f zs y g)
  where
    go : (o : Option Y) → f z ≡ o → There (cons_option o (filter_map f zs)) y
        → (There (filter_map f zs) y → (x : X) × There zs x × (f x ≡ Some y))
        → (x : X) × There (z ∷ zs) x × (f x ≡ Some y)
    go None e g ih = let more = ih g in (more.0, inr more.1, more.2)
    go (Some w) e (inl same) ih = (z, inl refl, e ∙ ap Some same)
    go (Some w) e (inr g) ih = let more = ih g in (more.0, inr more.1, more.2)

-- ---- what a search finds

pub found_there : {X : Type 0} (p : X → Bool) (xs : List X) (x : X) → find p xs ≡ Some x → There xs x × (p x ≡ true)
found_there p [] x is = absurd (cc)
found_there {X} p (y ∷ ys) x is = go (λ f. found_there p ys x f) (p y) refl is
  where
    go : (find p ys ≡ Some x → There ys x × (p x ≡ true)) → (b : Bool) → p y ≡ b → cond b (Some y) (find p ys) ≡ Some x
        → There (y ∷ ys) x × (p x ≡ true)
    go ih true e f = let same : y ≡ x = cc in (inl same, subst (λ z. p z ≡ true) same e)
    go ih false e f = let more = ih f in (inr more.0, more.1)

-- an entry that passes is not passed over
pub there_found : {X : Type 0} (p : X → Bool) (xs : List X) (x : X) → There xs x → p x ≡ true → (y : X)
    × (find p xs ≡ Some y)
there_found p [] x h is = absurd h
there_found {X} p (z ∷ zs) x h is = go (p z) refl h (λ g. there_found p zs x g is)
  where
    go : (b : Bool) → p z ≡ b → There (z ∷ zs) x → (There zs x → (y : X) × (find p zs ≡ Some y))
        → (y : X) × (cond b (Some z) (find p zs) ≡ Some y)
    go true e h' ih = (z, refl)
    go false e (inl same) ih = absurd (true≢false (sym is ∙ ap p (sym same) ∙ e))
    go false e (inr g) ih = ih g

-- an entry is found by a test that tells it apart
pub sole_found : {X : Type 0} (same : X → X → Bool) (p : X → Bool) (xs : List X) (e : X) → p e ≡ true
    → ((x : X) → same x e ≡ false → p x ≡ false) → There xs e → IsDistinct same xs → find p xs ≡ Some e
unfolding IsDistinct
sole_found same p [] e is apart h d = absurd h
sole_found same p (x ∷ xs) e is apart (inl s) d = let hit : p x ≡ true = ap p s ∙ is in rw hit (ap Some s)
sole_found {X} same p (x ∷ xs) e is apart (inr h) d =
    let miss : p x ≡ false = apart x (all_there xs h d.0) in
    rw miss (sole_found same p xs e is apart h d.1)
  where
    all_there : (ys : List X) → There ys e → AllByRecursion (λ z. same x z ≡ false) ys → same x e ≡ false
    all_there [] g a = absurd g
    all_there (y ∷ ys) (inl s) a = subst (λ z. same x z ≡ false) s a.0
    all_there (y ∷ ys) (inr g) a = all_there ys g a.1

-- the same for what is seen of each entry
pub sole_seen : {X Y : Type 0} (f : X → Y) (same : Y → Y → Bool) (p : X → Bool) (xs : List X) (e : X) → p e ≡ true
    → ((x : X) → same (f x) (f e) ≡ false → p x ≡ false) → There xs e → IsDistinct same (map f xs) → find p xs ≡ Some e
unfolding IsDistinct
sole_seen f same p [] e is apart h d = absurd h
sole_seen f same p (x ∷ xs) e is apart (inl s) d = let hit : p x ≡ true = ap p s ∙ is in rw hit (ap Some s)
sole_seen {X} f same p (x ∷ xs) e is apart (inr h) d =
    let miss : p x ≡ false = apart x (all_there xs h d.0) in
    rw miss (sole_seen f same p xs e is apart h d.1)
  where
    all_there : (ys : List X) → There ys e → AllByRecursion (λ z. same (f x) z ≡ false) (map f ys)
        → same (f x) (f e) ≡ false
    all_there [] g a = absurd g
    all_there (y ∷ ys) (inl s) a = subst (λ z. same (f x) (f z) ≡ false) s a.0
    all_there (y ∷ ys) (inr g) a = all_there ys g a.1

-- ---- lists of which one entry goes or changes

pub without_differs : {X : Type 0} (p : X → Bool) (xs : List X) (x : X) → find p xs ≡ Some x
    → without_first p xs ≢ xs
without_differs p xs x is same = absurd (let n = shorter p xs x is in let m = ap length same in omega (arith, n, m))
  where
    shorter : {Y : Type 0} (q : Y → Bool) (ys : List Y) (y : Y) → find q ys ≡ Some y
        → suc (length (without_first q ys)) ≡ length ys
    shorter q [] y f = absurd (cc)
    shorter {Y} q (z ∷ zs) y f = go (λ g. shorter q zs y g) (q z) f
      where
        go : (find q zs ≡ Some y → suc (length (without_first q zs)) ≡ length zs) → (b : Bool)
            → cond b (Some z) (find q zs) ≡ Some y
            → suc (length (cond b zs (z ∷ without_first q zs))) ≡ length (z ∷ zs)
        go ih true g = refl
        go ih false g = ap suc (ih g)

pub replaced_at : {X : Type 0} (p : X → Bool) (xs : List X) (x y : X) → find p xs ≡ Some x → replaced p y xs ≡ xs
    → y ≡ x
replaced_at p [] x y is same = absurd (cc)
replaced_at {X} p (z ∷ zs) x y is same = go (λ f g. replaced_at p zs x y f g) (p z) is same
  where
    go : (find p zs ≡ Some x → replaced p y zs ≡ zs → y ≡ x) → (b : Bool) → cond b (Some z) (find p zs) ≡ Some x
        → cond b (y ∷ zs) (z ∷ replaced p y zs) ≡ z ∷ zs → y ≡ x
    go ih true f g = let here : z ≡ x = cc in let there : y ≡ z = cc in there ∙ here
    go ih false f g = let rest : replaced p y zs ≡ zs = cc in ih f rest

pub replaced_same : {X : Type 0} (p : X → Bool) (xs : List X) (x : X) → find p xs ≡ Some x → replaced p x xs ≡ xs
replaced_same p [] x is = refl
replaced_same {X} p (z ∷ zs) x is = go (λ f. replaced_same p zs x f) (p z) is
  where
    go : (find p zs ≡ Some x → replaced p x zs ≡ zs) → (b : Bool) → cond b (Some z) (find p zs) ≡ Some x
        → cond b (x ∷ zs) (z ∷ replaced p x zs) ≡ z ∷ zs
    go ih true f = let here : z ≡ x = cc in ap (λ w. w ∷ zs) (sym here)
    go ih false f = ap (λ ws. z ∷ ws) (ih f)

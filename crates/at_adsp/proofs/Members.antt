-- Which entries are in a list, where one of them changes.
use Rattle.std.proofs.Common.{◌≡◌, ℕ, ◌<◌, Bool, true, false, cond, List, [], ◌∷◌, map}
use Rattle.std.proofs.Common.{find, Option, Some, ◌⊎◌, inl, inr, refl, sym, ap, subst, ◌∙◌}
use Rattle.std.proofs.Common.{arith}
use Rattle.std.proofs.lemmas.Bool.{eq-eqb}
use Rattle.at_ddp.specs.declared.address.Address.{Address}
use Rattle.at_ddp.proofs.MemberLemmas.{There}
use Rattle.at_adsp.specs.Network.{Made, born}
use Rattle.at_adsp.specs.Streams.{Stream, has_number, with_peer}
use Rattle.at_adsp.proofs.Growth.{Fall, unequal}
use Rattle.std.proofs.lemmas.Option.{same_Some}

-- ---- what is seen of each entry

pub found_seen : {X Y : Type 0} (f : X → Y) (p : Y → Bool) (xs : List X) (x : X) → find (λ y. p (f y)) xs ≡ Some x
    → find p (map f xs) ≡ Some (f x)
found_seen f p [] x is = absurd (cc)
found_seen {X} {Y} f p (y ∷ ys) x is = go (λ g. found_seen f p ys x g) (p (f y)) is
  where
    go : (find (λ z. p (f z)) ys ≡ Some x → find p (map f ys) ≡ Some (f x)) → (b : Bool)
        → cond b (Some y) (find (λ z. p (f z)) ys) ≡ Some x → cond b (Some (f y)) (find p (map f ys)) ≡ Some (f x)
    go ih true g = ap (λ z. Some (f z)) (same_Some y x g)
    go ih false g = ih g

pub seen_found : {X Y : Type 0} (f : X → Y) (p : Y → Bool) (xs : List X) (y : Y) → find p (map f xs) ≡ Some y → (x : X)
    × (find (λ z. p (f z)) xs ≡ Some x) × (f x ≡ y)
seen_found f p [] y is = absurd (cc)
seen_found {X} {Y} f p (x ∷ xs) y is = go (λ g. seen_found f p xs y g) (p (f x)) is
  where
    go : (find p (map f xs) ≡ Some y → (z : X) × (find (λ w. p (f w)) xs ≡ Some z) × (f z ≡ y)) → (b : Bool)
        → cond b (Some (f x)) (find p (map f xs)) ≡ Some y →
        (z : X) × (cond b (Some x) (find (λ w. p (f w)) xs) ≡ Some z) × (f z ≡ y)
    go ih true g = (x, refl, same_Some (f x) y g)
    go ih false g = ih g

-- ---- ends that were made

there_below : (made : List Made) (m : Made) (bound : ℕ) → Fall bound made → There made m → m.stream.birth < bound
there_below [] m bound fall h = absurd h
there_below (x ∷ xs) m bound fall (inl same) = subst (λ (y : Made). y.stream.birth < bound) same fall.0
there_below (x ∷ xs) m bound fall (inr h) = let lt = there_below xs m x.stream.birth fall.1 h in let less = fall.0 in
    omega (arith, lt, less)

-- each is found by its birth
pub there_born : (made : List Made) (m : Made) (bound : ℕ) → Fall bound made → There made m → born made m.stream.birth
    ≡ Some m
there_born [] m bound fall h = absurd h
there_born (x ∷ xs) m bound fall (inl same) =
    ap (λ c. cond c (Some x) (born xs m.stream.birth))
    (eq-eqb x.stream.birth m.stream.birth (ap (λ (y : Made). y.stream.birth) same)) ∙ ap Some same
there_born (x ∷ xs) m bound fall (inr h) =
    ap (λ c. cond c (Some x) (born xs m.stream.birth))
    (unequal m.stream.birth x.stream.birth (there_below xs m x.stream.birth fall.1 h))
    ∙ there_born xs m x.stream.birth fall.1 h

-- ---- one end gets a peer

-- each other end was there before, as it is
pub before_peer : (at : Address) (id : ℕ) (peer : Option ℕ) (m x : Stream) (ss : List Stream)
    → find (has_number at id) ss ≡ Some m → There (with_peer at id peer ss) x → There ss x
    ⊎ (x ≡ record m { peer = peer })
before_peer at id peer m x [] is h = absurd h
before_peer at id peer m x (z ∷ zs) is h = go (λ f g. before_peer at id peer m x zs f g) (has_number at id z) is h
  where
    go : (find (has_number at id) zs ≡ Some m → There (with_peer at id peer zs) x → There zs x
        ⊎ (x ≡ record m { peer = peer })) →
        (b : Bool) → cond b (Some z) (find (has_number at id) zs) ≡ Some m
        → There (cond b (record z { peer = peer } ∷ zs) (z ∷ with_peer at id peer zs)) x → There (z ∷ zs) x
        ⊎ (x ≡ record m { peer = peer })
    go ih true f (inl same) = inr (sym same ∙ ap (λ (y : Stream). record y { peer = peer }) (same_Some z m f))
    go ih true f (inr g) = inl (inr g)
    go ih false f (inl same) = inl (inl same)
    go ih false f (inr g) = rest (ih f g)
      where
        rest : There zs x ⊎ (x ≡ record m { peer = peer }) → There (z ∷ zs) x ⊎ (x ≡ record m { peer = peer })
        rest (inl k) = inl (inr k)
        rest (inr k) = inr k

-- each other end is there after it, as it was
pub after_peer : (at : Address) (id : ℕ) (peer : Option ℕ) (m x : Stream) (ss : List Stream)
    → find (has_number at id) ss ≡ Some m → There ss x → There (with_peer at id peer ss) x ⊎ (x ≡ m)
after_peer at id peer m x [] is h = absurd h
after_peer at id peer m x (z ∷ zs) is h = go (λ f g. after_peer at id peer m x zs f g) (has_number at id z) is h
  where
    go : (find (has_number at id) zs ≡ Some m → There zs x → There (with_peer at id peer zs) x ⊎ (x ≡ m)) →
        (b : Bool) → cond b (Some z) (find (has_number at id) zs) ≡ Some m → There (z ∷ zs) x
        → There (cond b (record z { peer = peer } ∷ zs) (z ∷ with_peer at id peer zs)) x ⊎ (x ≡ m)
    go ih true f (inl same) = inr (sym same ∙ same_Some z m f)
    go ih true f (inr g) = inl (inr g)
    go ih false f (inl same) = inl (inl same)
    go ih false f (inr g) = rest (ih f g)
      where
        rest : There (with_peer at id peer zs) x ⊎ (x ≡ m) → There (z ∷ with_peer at id peer zs) x ⊎ (x ≡ m)
        rest (inl k) = inl (inr k)
        rest (inr k) = inr k

-- it is found as it was
pub peer_found : (at : Address) (id : ℕ) (peer : Option ℕ) (m : Stream) (ss : List Stream) → find (has_number at id) ss
    ≡ Some m → find (has_number at id) (with_peer at id peer ss) ≡ Some (record m { peer = peer })
peer_found at id peer m [] is = absurd (cc)
peer_found at id peer m (z ∷ zs) is = go (λ f. peer_found at id peer m zs f) (has_number at id z) refl is
  where
    go : (find (has_number at id) zs ≡ Some m → find (has_number at id) (with_peer at id peer zs)
        ≡ Some (record m { peer = peer })) →
        (b : Bool) → has_number at id z ≡ b → cond b (Some z) (find (has_number at id) zs) ≡ Some m
        → find (has_number at id) (cond b (record z { peer = peer } ∷ zs) (z ∷ with_peer at id peer zs))
        ≡ Some (record m { peer = peer })
    go ih true e f =
        ap (λ c. cond c (Some (record z { peer = peer })) (find (has_number at id) zs)) e
        ∙ ap (λ (y : Stream). Some (record y { peer = peer })) (same_Some z m f)
    go ih false e f = ap (λ c. cond c (Some z) (find (has_number at id) (with_peer at id peer zs))) e ∙ ih f

-- Ends that were made, as one of them changes or another is made.
use Rattle.std.proofs.Common.{◌≡◌, ℕ, ◌<◌, ◌≤◌, Bool, true, false, cond, List, [], ◌∷◌, Option, Some, None, refl, sym}
use Rattle.std.proofs.Common.{ap, subst, ◌∙◌, arith}
use Rattle.std.specs.Prelude.{find, ◌==◌}
use Rattle.std.proofs.lemmas.Bool.{true≢false, eqb-true, eq-eqb}
use Rattle.at_ddp.specs.Tables.{replaced}
use Rattle.at_ddp.specs.declared.address.Address.{Address}
use Rattle.at_adsp_end.specs.declared.remote.Remote.{Remote}
use Rattle.at_adsp.specs.Network.{Setting, Made, birth_of, born, has_birth, is_end, named, newest}
use Rattle.at_ddp.proofs.Alls.{found_passes}
use Rattle.at_adsp.proofs.Finds.{kept_in}
use Rattle.at_adsp.proofs.Mapped.{mapped}
use Rattle.std.proofs.lemmas.Option.{same_Some}

-- the same end, later: its remote stays, once it has one, and so does its peer
pub record Grows (m u : Made) : Type 0 where
  pub birth : u.stream.birth ≡ m.stream.birth
  pub owner : u.stream.owner ≡ m.stream.owner
  pub id : u.stream.id ≡ m.stream.id
  pub listener : u.stream.listener ≡ m.stream.listener
  pub asked : u.stream.asked ≡ m.stream.asked
  pub remote : (r : Remote) → m.last.remote ≡ Some r → u.last.remote ≡ Some r
  pub names : (r : Remote) → m.last.remote ≡ Some r → u.names ≡ m.names
  pub peer : (b : ℕ) → m.stream.peer ≡ Some b → u.stream.peer ≡ Some b

pub itself : (m : Made) → Grows m m
itself m = record {
  birth = refl;
  owner = refl;
  id = refl;
  listener = refl;
  asked = refl;
  remote = λ r e. e;
  names = λ r e. refl;
  peer = λ b e. e;
}

-- ---- one end changes

module _ (p : Made → Bool) (m u : Made) (made : List Made) (grows : Grows m u) (there : find p made ≡ Some m) where
  pub newest_kept : (at : Address) (id : ℕ) (w : Made) → newest made at id ≡ Some w → (v : Made)
      × (newest (replaced p u made) at id ≡ Some v) × Grows w v
  newest_kept at id w is = kept_in Grows itself p (is_end at id) m u made grows
      (λ i. is_end at id (record u { stream = record u.stream { owner = grows.owner i; id = grows.id i } })) there w is

  pub born_kept : (b : ℕ) (w : Made) → born made b ≡ Some w → (v : Made) × (born (replaced p u made) b ≡ Some v)
      × Grows w v
  born_kept b w is = kept_in Grows itself p (has_birth b) m u made grows (ap (λ k. k == b) grows.birth) there w is

-- what is the same of both is the same of what is found
pub of_found : {X : Type 0} (f : Made → X) (p q : Made → Bool) (m u : Made) (made : List Made) → f u ≡ f m → q u ≡ q m
    → find p made ≡ Some m → mapped f (find q (replaced p u made)) ≡ mapped f (find q made)
of_found f p q m u [] same alike is = refl
of_found f p q m u (z ∷ zs) same alike is = go (λ h. of_found f p q m u zs same alike h) (p z) is
  where
    here : z ≡ m → (a b : Bool) → q u ≡ a → q z ≡ b → mapped f (cond a (Some u) (find q zs))
        ≡ mapped f (cond b (Some z) (find q zs))
    here s true true e h = ap Some (same ∙ ap f (sym s))
    here s true false e h = absurd (true≢false (sym e ∙ alike ∙ ap q (sym s) ∙ h))
    here s false true e h = absurd (true≢false (sym h ∙ ap q s ∙ sym alike ∙ e))
    here s false false e h = refl

    go : (find p zs ≡ Some m → mapped f (find q (replaced p u zs)) ≡ mapped f (find q zs)) → (c : Bool)
        → cond c (Some z) (find p zs) ≡ Some m →
        mapped f (find q (cond c (u ∷ zs) (z ∷ replaced p u zs))) ≡ mapped f (cond (q z) (Some z) (find q zs))
    go ih true h = here (same_Some z m h) (q u) (q z) refl refl
    go ih false h = rest (q z)
      where
        rest : (b : Bool) → mapped f (cond b (Some z) (find q (replaced p u zs)))
            ≡ mapped f (cond b (Some z) (find q zs))
        rest true = refl
        rest false = ih h

-- the births of what is found
pub births_kept : (p q : Made → Bool) (m u : Made) (made : List Made) → u.stream.birth ≡ m.stream.birth → q u ≡ q m
    → find p made ≡ Some m → birth_of (find q (replaced p u made)) ≡ birth_of (find q made)
births_kept p q m u made birth same is =
    sym (birth_is (find q (replaced p u made))) ∙ of_found (λ (x : Made). x.stream.birth) p q m u made birth same is
    ∙ birth_is (find q made)
  where
    birth_is : (o : Option Made) → mapped (λ (x : Made). x.stream.birth) o ≡ birth_of o
    birth_is None = refl
    birth_is (Some x) = refl

pub named_kept : (setting : Setting) (p : Made → Bool) (m u : Made) (made : List Made) → Grows m u → find p made
    ≡ Some m → (r : Option Remote) → named setting (replaced p u made) r ≡ named setting made r
named_kept setting p m u made grows there None = refl
named_kept setting p m u made grows there (Some r) = ap (λ b. cond (setting.ours r.address) b None)
    (births_kept p (is_end r.address r.id) m u made grows.birth
    (λ i. is_end r.address r.id (record u { stream = record u.stream { owner = grows.owner i; id = grows.id i } }))
    there)

-- ---- births

-- they fall, and all are below this
abbrev pub Fall : ℕ → List Made → Type 0
Fall bound [] = Unit {0}
Fall bound (m ∷ ms) = (m.stream.birth < bound) × Fall m.stream.birth ms

pub fall_more : (a b : ℕ) (ms : List Made) → a ≤ b → Fall a ms → Fall b ms
fall_more a b [] le h = tt
fall_more a b (m ∷ ms) le h = (let lt = h.0 in omega (arith, lt, le), h.1)

pub fall_kept : (p : Made → Bool) (m u : Made) (made : List Made) (bound : ℕ) → u.stream.birth ≡ m.stream.birth
    → find p made ≡ Some m → Fall bound made → Fall bound (replaced p u made)
fall_kept p m u [] bound same is h = tt
fall_kept p m u (z ∷ zs) bound same is h = go (λ f. fall_kept p m u zs z.stream.birth same f h.1) (p z) is
  where
    go : (find p zs ≡ Some m → Fall z.stream.birth (replaced p u zs)) → (c : Bool) → cond c (Some z) (find p zs)
        ≡ Some m → Fall bound (cond c (u ∷ zs) (z ∷ replaced p u zs))
    go ih true f =
        let e : z.stream.birth ≡ u.stream.birth = ap (λ (x : Made). x.stream.birth) (same_Some z m f) ∙ sym same in
        (subst (λ k. k < bound) e h.0, subst (λ k. Fall k zs) e h.1)
    go ih false f = (h.0, ih f)

-- what is found was born below the bound
pub found_below : (q : Made → Bool) (w : Made) (made : List Made) (bound : ℕ) → Fall bound made → find q made ≡ Some w
    → w.stream.birth < bound
found_below q w [] bound h is = absurd (cc)
found_below q w (z ∷ zs) bound h is = go (λ f. found_below q w zs z.stream.birth h.1 f) (q z) is
  where
    go : (find q zs ≡ Some w → w.stream.birth < z.stream.birth) → (b : Bool) → cond b (Some z) (find q zs) ≡ Some w
        → w.stream.birth < bound
    go ih true f = subst (λ (x : Made). x.stream.birth < bound) (same_Some z w f) h.0
    go ih false f = let lt = ih f in let less = h.0 in omega (arith, lt, less)

pub unequal : (a b : ℕ) → a < b → (b == a) ≡ false
unequal a b lt = go (b == a) refl
  where
    go : (c : Bool) → (b == a) ≡ c → c ≡ false
    go false e = refl
    go true e = let same = eqb-true b a e in absurd (omega arith)

-- what is found is found by its birth
pub found_born : (q : Made → Bool) (w : Made) (made : List Made) (bound : ℕ) → Fall bound made → find q made ≡ Some w
    → born made w.stream.birth ≡ Some w
found_born q w [] bound h is = absurd (cc)
found_born q w (z ∷ zs) bound h is = go (λ f. found_born q w zs z.stream.birth h.1 f) (q z) is
  where
    go : (find q zs ≡ Some w → born zs w.stream.birth ≡ Some w) → (b : Bool) → cond b (Some z) (find q zs) ≡ Some w
        → cond (z.stream.birth == w.stream.birth) (Some z) (born zs w.stream.birth) ≡ Some w
    go ih true f =
        let e : z ≡ w = same_Some z w f in
        ap (λ c. cond c (Some z) (born zs w.stream.birth))
        (eq-eqb z.stream.birth w.stream.birth (ap (λ (x : Made). x.stream.birth) e)) ∙ ap Some e
    go ih false f = ap (λ c. cond c (Some z) (born zs w.stream.birth))
        (unequal w.stream.birth z.stream.birth (found_below q w zs z.stream.birth h.1 f)) ∙ ih f

-- one end more, of this birth: the others are born as before
pub born_more : (new w : Made) (made : List Made) (b : ℕ) → Fall new.stream.birth made → born made b ≡ Some w
    → born (new ∷ made) b ≡ Some w
born_more new w made b h is =
    let lt = found_below (has_birth b) w made new.stream.birth h is in
    let same : w.stream.birth ≡ b = eqb-true w.stream.birth b (found_passes (has_birth b) made w is) in
    ap (λ c. cond c (Some new) (born made b)) (unequal b new.stream.birth (omega arith)) ∙ is

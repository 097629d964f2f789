-- What becomes of the values at a list of places, and of the agreement of both, as one place changes.
use Rattle.std.proofs.Common.{◌≡◌, ◌≢◌, ◌⊎◌, ℕ, zero, suc, Bool, true, false, nat_eq, ◌||◌, List, [], ◌∷◌, ◌++◌}
use Rattle.std.proofs.Common.{length, set, slice_get, filter_map, Option, Some, None, IsSome, refl, sym, ap, subst}
use Rattle.std.proofs.Common.{◌∙◌, inl, inr, true≢false}
use Rattle.std.specs.Prelude.{remove}
use Rattle.std.specs.List.{AllByRecursion, IsDistinct, list_any}
use Rattle.std.proofs.lemmas.Bool.{cases_eq, eqb-false, ne_eqb}
use Rattle.std.proofs.lemmas.Bool.Decides.{eqb_tells}
use Rattle.at_table.specs.Layout.{Agree}

eqb_same : (n : ℕ) → nat_eq n n ≡ true
eqb_same n = elim (eqb_tells n n) [
  | inl same ↦ same.0
  | inr differs ↦ absurd (differs.1 refl)
]

apart_too : (x y : ℕ) → nat_eq x y ≡ false → nat_eq y x ≡ false
apart_too x y h = ne_eqb y x (λ same. eqb-false x y h (sym same))

or_left : (b : Bool) {c d : Bool} → (c ≡ true → d ≡ true) → (b || c) ≡ true → (b || d) ≡ true
or_left true f h = refl
or_left false f h = f h

or_right : (b : Bool) {c : Bool} → c ≡ true → (b || c) ≡ true
or_right true h = refl
or_right false h = h

module _ {V : Type 0} where
  -- new has this at the place, and at any other place what old has
  pub record Changes (old new : ℕ → Option V) (q : ℕ) (now : Option V) : Type 0 where
    pub changed : new q ≡ now
    pub others : (p : ℕ) → p ≢ q → new p ≡ old p

  the_value : (o : Option V) → IsSome o → (v : V) × (o ≡ Some v)
  the_value None some = absurd (true≢false (sym some))
  the_value (Some v) some = (v, refl)

  no_value : {o : Option V} {X : Type 0} → o ≡ None → IsSome o → X
  no_value none some = absurd (cc)

  -- ---- the values at the places

  pub length-held : (at : ℕ → Option V) (ps : List ℕ) → AllByRecursion (λ p. IsSome (at p)) ps
      → length (filter_map at ps) ≡ length ps
  length-held at [] h = refl
  length-held at (p ∷ ps) h = let v = the_value (at p) h.0 in rw v.1 (ap suc (length-held at ps h.1))

  -- a place of the list has a value
  pub filled_at : (at : ℕ → Option V) (ps : List ℕ) (i p : ℕ) → AllByRecursion (λ p. IsSome (at p)) ps
      → slice_get ps i ≡ Some p → IsSome (at p)
  filled_at at [] i p h found = absurd (cc)
  filled_at at (q ∷ ps) zero p h found = let same : q ≡ p = cc in subst (λ x. IsSome (at x)) same h.0
  filled_at at (q ∷ ps) (suc i) p h found = filled_at at ps i p h.1 found

  -- the value that stands at an index is the one at the place there
  pub held_at : (at : ℕ → Option V) (ps : List ℕ) (i p : ℕ) → AllByRecursion (λ p. IsSome (at p)) ps
      → slice_get ps i ≡ Some p → slice_get (filter_map at ps) i ≡ at p
  held_at at [] i p h found = absurd (cc)
  held_at at (q ∷ ps) zero p h found =
      let v = the_value (at q) h.0 in
      let same : q ≡ p = cc in
      rw (← same, v.1) refl
  held_at at (q ∷ ps) (suc i) p h found = let v = the_value (at q) h.0 in rw v.1 (held_at at ps i p h.1 found)

  -- a place that has no value is none of the list
  away_if_vacant : (at : ℕ → Option V) (ps : List ℕ) (q : ℕ) → AllByRecursion (λ p. IsSome (at p)) ps → at q ≡ None
      → AllByRecursion (λ p. nat_eq q p ≡ false) ps
  away_if_vacant at [] q h none = tt
  away_if_vacant at (p ∷ ps) q h none =
      let some = h.0 in
      (ne_eqb q p (λ same. no_value (sym (ap at same) ∙ none) some), away_if_vacant at ps q h.1 none)

  module _ (old new : ℕ → Option V) (q : ℕ) (now : Option V) (c : Changes old new q now) where
    same_at : (p : ℕ) → nat_eq q p ≡ false → new p ≡ old p
    same_at p differs = c.others p (λ same. eqb-false q p differs (sym same))

    -- elsewhere nothing changes
    held_elsewhere : (ps : List ℕ) → AllByRecursion (λ p. nat_eq q p ≡ false) ps → filter_map new ps ≡ filter_map old ps
    held_elsewhere [] away = refl
    held_elsewhere (p ∷ ps) away = rw (same_at p away.0, held_elsewhere ps away.1) refl

    filled_elsewhere : (ps : List ℕ) → AllByRecursion (λ p. nat_eq q p ≡ false) ps
        → AllByRecursion (λ p. IsSome (old p)) ps → AllByRecursion (λ p. IsSome (new p)) ps
    filled_elsewhere [] away h = tt
    filled_elsewhere (p ∷ ps) away h = (subst IsSome (sym (same_at p away.0)) h.0, filled_elsewhere ps away.1 h.1)

    -- ---- a value is put in at a place that had none

    held_push : (ps : List ℕ) → AllByRecursion (λ p. IsSome (old p)) ps → AllByRecursion (λ p. nat_eq q p ≡ false) ps
        → (v : V) → now ≡ Some v → filter_map new (ps ++ q ∷ []) ≡ filter_map old ps ++ v ∷ []
    held_push [] h away v is = let at : new q ≡ Some v = c.changed ∙ is in rw at refl
    held_push (p ∷ ps) h away v is =
        let x = the_value (old p) h.0 in
        rw (same_at p away.0, x.1) (ap (λ l. x.0 ∷ l) (held_push ps h.1 away.1 v is))

    filled_push : (ps : List ℕ) → AllByRecursion (λ p. IsSome (new p)) ps → IsSome (new q)
        → AllByRecursion (λ p. IsSome (new p)) (ps ++ q ∷ [])
    filled_push [] h some = (some, tt)
    filled_push (p ∷ ps) h some = (h.0, filled_push ps h.1 some)

    away_push : (x : ℕ) (ps : List ℕ) → AllByRecursion (λ p. nat_eq x p ≡ false) ps → nat_eq x q ≡ false
        → AllByRecursion (λ p. nat_eq x p ≡ false) (ps ++ q ∷ [])
    away_push x [] h differs = (differs, tt)
    away_push x (p ∷ ps) h differs = (h.0, away_push x ps h.1 differs)

    apart_push : (ps : List ℕ) → IsDistinct nat_eq ps → AllByRecursion (λ p. nat_eq q p ≡ false) ps
        → IsDistinct nat_eq (ps ++ q ∷ [])
    unfolding IsDistinct
    apart_push [] d away = (tt, tt)
    apart_push (p ∷ ps) d away = (away_push p ps d.0 (apart_too q p away.0), apart_push ps d.1 away.1)

    named_push : (ps : List ℕ) (p : ℕ) → (p ≡ q) ⊎ (list_any (nat_eq p) ps ≡ true)
        → list_any (nat_eq p) (ps ++ q ∷ []) ≡ true
    named_push [] p (inl same) = rw same (ap (λ b. b || false) (eqb_same q))
    named_push [] p (inr h) = absurd (true≢false (sym h))
    named_push (x ∷ ps) p (inl same) = or_right (nat_eq p x) (named_push ps p (inl same))
    named_push (x ∷ ps) p (inr h) = or_left (nat_eq p x) (λ e. named_push ps p (inr e)) h

    pub agree_push : (ps : List ℕ) → Agree old ps → old q ≡ None → IsSome now → Agree new (ps ++ q ∷ [])
    agree_push ps a none some =
        let away = away_if_vacant old ps q a.filled none in record {
          filled = filled_push ps (filled_elsewhere ps away a.filled) (subst IsSome (sym c.changed) some);
          apart = apart_push ps a.apart away;
          named = λ p h. elim (cases_eq p q) [
            | inl same ↦ named_push ps p (inl same)
            | inr differs ↦ named_push ps p (inr (a.named p (subst IsSome (c.others p differs) h)))
          ];
        }

    pub pushed : (ps : List ℕ) → Agree old ps → old q ≡ None → (v : V) → now ≡ Some v
        → filter_map new (ps ++ q ∷ []) ≡ filter_map old ps ++ v ∷ []
    pushed ps a none v is = held_push ps a.filled (away_if_vacant old ps q a.filled none) v is

    -- ---- a value is changed at its place

    filled_write : (ps : List ℕ) → AllByRecursion (λ p. IsSome (old p)) ps → IsSome (new q)
        → AllByRecursion (λ p. IsSome (new p)) ps
    filled_write [] h some = tt
    filled_write (p ∷ ps) h some =
        let first : IsSome (new p) = elim (cases_eq p q) [
          | inl same ↦ subst (λ x. IsSome (new x)) (sym same) some
          | inr differs ↦ subst IsSome (sym (c.others p differs)) h.0
        ] in
        (first, filled_write ps h.1 some)

    pub agree_write : (ps : List ℕ) → Agree old ps → IsSome (old q) → IsSome now → Agree new ps
    agree_write ps a had some = record {
      filled = filled_write ps a.filled (subst IsSome (sym c.changed) some);
      apart = a.apart;
      named = λ p h. elim (cases_eq p q) [
        | inl same ↦ a.named p (subst (λ x. IsSome (old x)) (sym same) had)
        | inr differs ↦ a.named p (subst IsSome (c.others p differs) h)
      ];
    }

    away_at : (ps : List ℕ) (i x : ℕ) → AllByRecursion (λ p. nat_eq x p ≡ false) ps → slice_get ps i ≡ Some q
        → nat_eq q x ≡ false
    away_at [] i x h found = absurd (cc)
    away_at (p ∷ ps) zero x h found = let same : p ≡ q = cc in apart_too x q (subst (λ y. nat_eq x y ≡ false) same h.0)
    away_at (p ∷ ps) (suc i) x h found = away_at ps i x h.1 found

    held_set : (ps : List ℕ) (i : ℕ) (v : V) → AllByRecursion (λ p. IsSome (old p)) ps → IsDistinct nat_eq ps
        → slice_get ps i ≡ Some q → now ≡ Some v → filter_map new ps ≡ set (filter_map old ps) i v
    unfolding IsDistinct
    held_set [] i v h d found is = absurd (cc)
    held_set (p ∷ ps) zero v h d found is =
        let x = the_value (old p) h.0 in
        let same : p ≡ q = cc in
        let at : new p ≡ Some v = ap new same ∙ c.changed ∙ is in
        let away = subst (λ y. AllByRecursion (λ r. nat_eq y r ≡ false) ps) same d.0 in
        rw (at, x.1, held_elsewhere ps away) refl
    held_set (p ∷ ps) (suc i) v h d found is =
        let x = the_value (old p) h.0 in
        rw (same_at p (away_at ps i p d.0 found), x.1) (ap (λ l. x.0 ∷ l) (held_set ps i v h.1 d.1 found is))

    pub written : (ps : List ℕ) (i : ℕ) (v : V) → Agree old ps → slice_get ps i ≡ Some q → now ≡ Some v
        → filter_map new ps ≡ set (filter_map old ps) i v
    written ps i v a found is = held_set ps i v a.filled a.apart found is

    -- ---- a value is taken out

    held_remove : (ps : List ℕ) (i : ℕ) → AllByRecursion (λ p. IsSome (old p)) ps → IsDistinct nat_eq ps
        → slice_get ps i ≡ Some q → filter_map new (remove ps i) ≡ remove (filter_map old ps) i
    unfolding IsDistinct
    held_remove [] i h d found = absurd (cc)
    held_remove (p ∷ ps) zero h d found =
        let x = the_value (old p) h.0 in
        let same : p ≡ q = cc in
        rw x.1 (held_elsewhere ps (subst (λ y. AllByRecursion (λ r. nat_eq y r ≡ false) ps) same d.0))
    held_remove (p ∷ ps) (suc i) h d found =
        let x = the_value (old p) h.0 in
        rw (same_at p (away_at ps i p d.0 found), x.1) (ap (λ l. x.0 ∷ l) (held_remove ps i h.1 d.1 found))

    filled_remove : (ps : List ℕ) (i : ℕ) → AllByRecursion (λ p. IsSome (old p)) ps → IsDistinct nat_eq ps
        → slice_get ps i ≡ Some q → AllByRecursion (λ p. IsSome (new p)) (remove ps i)
    unfolding IsDistinct
    filled_remove [] i h d found = absurd (cc)
    filled_remove (p ∷ ps) zero h d found =
        let same : p ≡ q = cc in
        filled_elsewhere ps (subst (λ y. AllByRecursion (λ r. nat_eq y r ≡ false) ps) same d.0) h.1
    filled_remove (p ∷ ps) (suc i) h d found =
        (subst IsSome (sym (same_at p (away_at ps i p d.0 found))) h.0, filled_remove ps i h.1 d.1 found)

    away_remove : (ps : List ℕ) (i x : ℕ) → AllByRecursion (λ p. nat_eq x p ≡ false) ps
        → AllByRecursion (λ p. nat_eq x p ≡ false) (remove ps i)
    away_remove [] zero x h = tt
    away_remove [] (suc i) x h = tt
    away_remove (p ∷ ps) zero x h = h.1
    away_remove (p ∷ ps) (suc i) x h = (h.0, away_remove ps i x h.1)

    apart_remove : (ps : List ℕ) (i : ℕ) → IsDistinct nat_eq ps → IsDistinct nat_eq (remove ps i)
    unfolding IsDistinct
    apart_remove [] zero d = tt
    apart_remove [] (suc i) d = tt
    apart_remove (p ∷ ps) zero d = d.1
    apart_remove (p ∷ ps) (suc i) d = (away_remove ps i p d.0, apart_remove ps i d.1)

    named_remove : (ps : List ℕ) (i p : ℕ) → slice_get ps i ≡ Some q → p ≢ q → list_any (nat_eq p) ps ≡ true
        → list_any (nat_eq p) (remove ps i) ≡ true
    named_remove [] i p found differs h = absurd (cc)
    named_remove (x ∷ ps) zero p found differs h =
        let same : x ≡ q = cc in
        sym (ap (λ b. b || list_any (nat_eq p) ps) (ap (nat_eq p) same ∙ ne_eqb p q differs)) ∙ h
    named_remove (x ∷ ps) (suc i) p found differs h = or_left (nat_eq p x) (λ e. named_remove ps i p found differs e) h

    pub agree_remove : (ps : List ℕ) (i : ℕ) → Agree old ps → slice_get ps i ≡ Some q → now ≡ None
        → Agree new (remove ps i)
    agree_remove ps i a found none = record {
      filled = filled_remove ps i a.filled a.apart found;
      apart = apart_remove ps i a.apart;
      named = λ p h. elim (cases_eq p q) [
        | inl same ↦ no_value (ap new same ∙ c.changed ∙ none) h
        | inr differs ↦ named_remove ps i p found differs (a.named p (subst IsSome (c.others p differs) h))
      ];
    }

    pub removed : (ps : List ℕ) (i : ℕ) → Agree old ps → slice_get ps i ≡ Some q
        → filter_map new (remove ps i) ≡ remove (filter_map old ps) i
    removed ps i a found = held_remove ps i a.filled a.apart found

  pub agree_empty : Agree {V = V} (λ p. None) []
  unfolding IsDistinct
  agree_empty = record { filled = tt; apart = tt; named = λ p h. absurd (true≢false (sym h)) }

-- The numbers that were drawn in a world, and what it noted of them.
use Rattle.std.proofs.Common.{◌≡◌, ℕ, ◌+◌, ◌<◌, ◌≤◌, Bool, true, false, cond, [], ◌∷◌, Option, Some, None, refl, sym}
use Rattle.std.proofs.Common.{ap, ◌∙◌, arith}
use Rattle.std.specs.Prelude.{◌==◌, ◌&&◌}
use Rattle.std.proofs.lemmas.Bool.{true≢false, and_parts, eq-eqb, eqb-true, leb-true}
use Rattle.at_node.specs.declared.numbers.Draw.{Draw}
use Rattle.at_node.specs.declared.numbers.Draw.TheVariants.{Conn, Lookup, Tid}
use Rattle.at_world.specs.Draws.{Draws, is_number, same_draw, last_of, drawn_at, noted, is_no_later}

-- the world's list has a number that an event drew, with that event or a later one, and no event to come
pub record Noted (last : Draws) (events node : ℕ) (draw : Draw) (event : ℕ) : Type 0 where
  pub latest : ℕ
  pub is_there : last_of last node draw ≡ Some latest
  pub later : event ≤ latest
  pub past : latest < events

-- a number that no later event drew is not older than this one
pub not_later : (last : Draws) (events node : ℕ) (draw : Draw) (event now : ℕ) → Noted last events node draw event
    → is_no_later (last_of last node draw) now ≡ true → event ≤ now
not_later last events node draw event now its fresh =
    let le = leb-true its.latest now (ap (λ o. is_no_later o now) (sym its.is_there) ∙ fresh) in
    let earlier = its.later in
    omega (arith, le, earlier)

-- what a draw leaves: its own number at this event, and each other as it was
last_after : (ds : Draws) (node : ℕ) (draw : Draw) (event j : ℕ) (d : Draw) → last_of (drawn_at ds node draw event) j d
    ≡ cond (is_number j d (node, draw)) (Some event) (last_of ds j d)
last_after [] node draw event j d = refl
last_after (e ∷ ds) node draw event j d = go (last_after ds node draw event j d) (is_number node draw e.0) refl
  where
    -- the number in front is the one drawn
    same_as : (x y : Draw) → same_draw x y ≡ true → x ≡ y
    same_as (Tid a) (Tid b) h = ap Tid (eqb-true a b h)
    same_as (Lookup a) (Lookup b) h = ap Lookup (eqb-true a b h)
    same_as (Conn a) (Conn b) h = ap Conn (eqb-true a b h)
    same_as (Tid a) (Lookup b) h = absurd (cc)
    same_as (Tid a) (Conn b) h = absurd (cc)
    same_as (Lookup a) (Tid b) h = absurd (cc)
    same_as (Lookup a) (Conn b) h = absurd (cc)
    same_as (Conn a) (Tid b) h = absurd (cc)
    same_as (Conn a) (Lookup b) h = absurd (cc)

    here : is_number node draw e.0 ≡ true → e.0 ≡ (node, draw)
    here h =
        let both = and_parts (node == e.0.0) (same_draw draw e.0.1) h in
        λ i. (sym (eqb-true node e.0.0 both.0) i, sym (same_as draw e.0.1 both.1) i)

    draws_alike : (x y : Draw) → x ≡ y → same_draw x y ≡ true
    draws_alike (Tid a) (Tid b) h = let e : a ≡ b = cc in eq-eqb a b e
    draws_alike (Lookup a) (Lookup b) h = let e : a ≡ b = cc in eq-eqb a b e
    draws_alike (Conn a) (Conn b) h = let e : a ≡ b = cc in eq-eqb a b e
    draws_alike (Tid a) (Lookup b) h = absurd (cc)
    draws_alike (Tid a) (Conn b) h = absurd (cc)
    draws_alike (Lookup a) (Tid b) h = absurd (cc)
    draws_alike (Lookup a) (Conn b) h = absurd (cc)
    draws_alike (Conn a) (Tid b) h = absurd (cc)
    draws_alike (Conn a) (Lookup b) h = absurd (cc)

    both_true : node ≡ e.0.0 → draw ≡ e.0.1 → is_number node draw e.0 ≡ true
    both_true num dr = λ i. eq-eqb node e.0.0 num i && draws_alike draw e.0.1 dr i

    apart : is_number node draw e.0 ≡ false → (b : Bool) → is_number j d e.0 ≡ b
        → cond b (Some e.1) (cond (is_number j d (node, draw)) (Some event) (last_of ds j d))
        ≡ cond (is_number j d (node, draw)) (Some event) (cond b (Some e.1) (last_of ds j d))
    apart h false g = refl
    apart h true g = only (is_number j d (node, draw)) refl
      where
        only : (c : Bool) → is_number j d (node, draw) ≡ c → Some e.1 ≡ cond c (Some event) (Some e.1)
        only false k = refl
        only true k =
            let one = and_parts (j == e.0.0) (same_draw d e.0.1) g in
            let two = and_parts (j == node) (same_draw d draw) k in
            let num : node ≡ e.0.0 = sym (eqb-true j node two.0) ∙ eqb-true j e.0.0 one.0 in
            let dr : draw ≡ e.0.1 = sym (same_as d draw two.1) ∙ same_as d e.0.1 one.1 in
            absurd (true≢false (sym (both_true num dr) ∙ h))

    go : last_of (drawn_at ds node draw event) j d ≡ cond (is_number j d (node, draw)) (Some event) (last_of ds j d)
        → (b : Bool) → is_number node draw e.0 ≡ b
        → last_of (cond b ((e.0, event) ∷ ds) (e ∷ drawn_at ds node draw event)) j d
        ≡ cond (is_number j d (node, draw)) (Some event) (last_of (e ∷ ds) j d)
    go ih true h = replaced_one (is_number j d e.0) refl
      where
        replaced_one : (b : Bool) → is_number j d e.0 ≡ b → cond b (Some event) (last_of ds j d)
            ≡ cond (is_number j d (node, draw)) (Some event) (cond b (Some e.1) (last_of ds j d))
        replaced_one true g = sym (ap (λ b. cond b (Some event) (Some e.1)) (ap (is_number j d) (sym (here h)) ∙ g))
        replaced_one false g = sym
            (ap (λ b. cond b (Some event) (last_of ds j d)) (ap (is_number j d) (sym (here h)) ∙ g))
    go ih false h = ap (λ o. cond (is_number j d e.0) (Some e.1) o) ih ∙ apart h (is_number j d e.0) refl

-- an event that draws a number, or none, leaves what was noted noted
pub stays_noted : (last : Draws) (events k : ℕ) (o : Option Draw) (node : ℕ) (d : Draw) (event : ℕ)
    → Noted last events node d event → Noted (noted last k events o) (events + 1) node d event
stays_noted last events k None node d event is = let past = is.past in
    record { latest = is.latest; is_there = is.is_there; later = is.later; past = omega (arith, past) }
stays_noted last events k (Some draw) node d event is = go (is_number node d (k, draw)) refl
  where
    go : (b : Bool) → is_number node d (k, draw) ≡ b → Noted (drawn_at last k draw events) (events + 1) node d event
    go true e =
        let past = is.past in
        let later = is.later in
        record {
          latest = events;
          is_there = last_after last k draw events node d ∙ ap (λ b. cond b (Some events) (last_of last node d)) e;
          later = omega (arith, past, later);
          past = omega arith;
        }
    go false e =
        let past = is.past in
        record {
          latest = is.latest;
          is_there = last_after last k draw events node d ∙ ap (λ b. cond b (Some events) (last_of last node d)) e
              ∙ is.is_there;
          later = is.later;
          past = omega (arith, past);
        }

same_itself : (d : Draw) → same_draw d d ≡ true
same_itself (Tid t) = eq-eqb t t refl
same_itself (Lookup id) = eq-eqb id id refl
same_itself (Conn id) = eq-eqb id id refl

-- a number that is drawn now is noted
pub noted_now : (last : Draws) (events k : ℕ) (d : Draw) → Noted (noted last k events (Some d)) (events + 1) k d events
noted_now last events k d = record {
  latest = events;
  is_there = last_after last k d events k d
      ∙ (λ i. cond (eq-eqb k k refl i && same_itself d i) (Some events) (last_of last k d));
  later = omega arith;
  past = omega arith;
}

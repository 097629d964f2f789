-- What a request, an acknowledgement or an answer that comes leaves true of a network of ends of streams.
use Rattle.std.proofs.Common.{◌≡◌, ℕ, ◌+◌, Bool, true, false, cond, [], ◌∷◌, Option, Some, None, ◌⊎◌, inl, inr, refl}
use Rattle.std.proofs.Common.{sym, ap, subst, ◌∙◌}
use Rattle.std.specs.Prelude.{find, is_none, not, ◌&&◌, ◌||◌}
use Rattle.std.specs.List.{AllByRecursion}
use Rattle.std.proofs.lemmas.Bool.{true≢false, and_parts, eqb-true}
use Rattle.at_ddp.specs.Address.{same_address}
use Rattle.at_ddp.specs.declared.address.Address.{Address}
use Rattle.at_ddp.proofs.Octets.{same_address-true, same_both}
use Rattle.at_adsp_frame.specs.Segments.{Content}
use Rattle.at_adsp_end.specs.Ends.{EndState, answering, confirming, half_end, has_opened, has_remote, is_half, is_open}
use Rattle.at_adsp_end.specs.Ends.{is_opening, is_remote}
use Rattle.at_adsp_end.specs.Positions.{Numbers}
use Rattle.at_adsp_end.specs.Sending.{acks}
use Rattle.at_adsp_end.specs.declared.phase.Phase.TheVariants as phase
use Rattle.at_adsp_end.specs.declared.remote.Remote.{Remote}
use Rattle.at_adsp_end.specs.declared.change.EndChange.TheVariants as step
use Rattle.at_adsp_ends.specs.Openings.{ack_came, answer_came, answers_again, confirms_again, connected_to}
use Rattle.at_adsp_ends.specs.Openings.{heard_opening, ignored, is_answered, opened, request_came, room_for}
use Rattle.at_adsp_ends.specs.Receiving.{any_request_came}
use Rattle.at_adsp_ends.specs.Tables.{EndTable, by_id, by_remote, has_id, next_id, stayed}
use Rattle.at_adsp.specs.Network.{Setting, Network, NoneNames, does}
use Rattle.at_adsp.proofs.Beginnings.{made_sound}
use Rattle.at_adsp.proofs.Changes.{Moves}
use Rattle.at_adsp.proofs.Distinct.{drawn}
use Rattle.at_adsp.proofs.EndMoves.{Same, answering_said, half_is, hearing_plain}
use Rattle.at_adsp.proofs.EndMoves.{hearing_same, open_is, opening_is, plain_says, reaches_said, same_known}
use Rattle.at_adsp.proofs.Openings.{opened_sound}
use Rattle.at_adsp.proofs.Sayings.{Says}
use Rattle.at_adsp.proofs.Sound.{IsKnown, Knows, Reaches, Sound, Told}
use Rattle.at_adsp.proofs.Steps.{found_id, found_passes, found_stands, ignored_sound, later}
use Rattle.at_adsp.proofs.Steps.{stands_known, stayed_sound, turned_sound}

-- an end whose remote is known has this remote
pub own_remote : (r : Remote) (asked : Address) (o : Option Remote) → Reaches asked o → is_remote r o ≡ true → o
    ≡ Some r
own_remote r asked None h is = h.1 ∙ absurd (let none = h.1 in cc)
own_remote r asked (Some q) h is =
    let both = same_both r.address q.address r.id q.id is in
    ap Some (λ i. record { address = sym both.0 i; id = sym both.1 i })

module _ (setting : Setting) (n : Network) (at from : Address) (s : Content) (sound : Sound setting n.event n) where
  abbrev N : Numbers
  N = setting.numbers

  abbrev t : EndTable
  t = n.tables at

  abbrev r : Remote
  r = record { address = from; id = s.source }

  now : Sound setting (n.event + 1) n
  now = later setting n sound

  known : (q : EndState → Bool) (e : EndState) → find q t.ends ≡ Some e → IsKnown e
  known q e is = stands_known setting (n.event + 1) n at e now (found_stands setting (n.event + 1) n at q e now is)

  -- what comes is from a strange address, or says this
  abbrev By : Type 0 → Type 0
  By tells = (setting.ours from ≡ false) ⊎ ((setting.ours from ≡ true) × tells)

  -- ---- requests

  room_sound : (o : Option ℕ) → ((id : ℕ) → o ≡ Some id → next_id t ≡ Some id)
      → ((id : ℕ) → (room_for N t r o).answer ≡ step.Made id → NoneNames n at id) →
      Sound setting (n.event + 1) (does setting n at (room_for N t r o))
  room_sound None draws makes = turned_sound setting n at step.Turned from s.source now
  room_sound (Some id) draws makes =
      made_sound setting n at (half_end t.rooms id r) sound
      (record {
        drawn = drawn t id (sound.next at) (draws id refl);
        known = (refl, (s.source, refl));
        unopened = refl;
        unnamed = makes id refl;
      }) (step.Made id)
      (answering N (half_end t.rooms id r) ∷ []) (reaches_said (half_end t.rooms id r) true refl (s.source, refl), tt)

  request_sound : (o : Option EndState) → by_remote t r ≡ o
      → ((id : ℕ) → (request_came N t r o).answer ≡ step.Made id → NoneNames n at id) →
      Sound setting (n.event + 1) (does setting n at (request_came N t r o))
  request_sound None is makes = room_sound (cond t.listening (next_id t) None) (draws t.listening) makes
    where
      draws : (b : Bool) → (id : ℕ) → cond b (next_id t) None ≡ Some id → next_id t ≡ Some id
      draws true id h = h
      draws false id h = absurd (cc)
  request_sound (Some e) is makes = go (answers_again e) refl
    where
      go : (b : Bool) → answers_again e ≡ b
          → Sound setting (n.event + 1)
          (does setting n at (cond b (stayed t step.Again e (answering N e ∷ [])) (ignored t)))
      go true h =
          stayed_sound setting n at (has_remote r) e step.Again (answering N e ∷ []) now is (
            answering_said e e.phase (known (has_remote r) e is)
                (and_parts e.listener (is_half e.phase || is_open e.phase) h).0,
            tt,
          )
      go false h = ignored_sound setting n at now

  pub any_sound : (b : Bool) → ((id : ℕ) → (any_request_came N t r b).answer ≡ step.Made id → NoneNames n at id)
      → Sound setting (n.event + 1) (does setting n at (any_request_came N t r b))
  any_sound true makes = ignored_sound setting n at now
  any_sound false makes = request_sound (by_remote t r) refl makes

  -- ---- an end opens

  -- the end that opens, after it heard what opened it
  abbrev heard_first : EndState → EndState
  heard_first e = (heard_opening N e s).after

  first_same : (e : EndState) → Same e (heard_first e)
  first_same e = hearing_same N e s.window (acks N e.sender s.next)

  first_plain : (x e : EndState) → AllByRecursion (Says x) (heard_opening N e s).sent
  first_plain x e = plain_says x (heard_opening N e s).sent (hearing_plain N e s.window (acks N e.sender s.next))

  -- ---- acknowledgements

  half_known : (dest : ℕ) (e : EndState) → by_id t dest ≡ Some e → (is_half e.phase && has_remote r e) ≡ true
      → (e.listener ≡ true) × Reaches e.asked e.remote
  half_known dest e is h =
      subst (λ p. Knows p e.listener e.asked e.remote)
      (half_is e.phase (and_parts (is_half e.phase) (has_remote r e) h).0) (known (has_id dest) e is)

  pub ack_moves : (dest : ℕ) (e : EndState) → by_id t dest ≡ Some e → (is_half e.phase && has_remote r e) ≡ true
      → Moves e (heard_first (record e { phase = phase.Open }))
  ack_moves dest e is h =
      let same = first_same (record e { phase = phase.Open }) in
      record {
        id = same.id;
        listener = same.listener;
        asked = same.asked;
        remote = λ q g. same.remote ∙ g;
        opened = λ g. ap has_opened same.phase;
        known = same_known (record e { phase = phase.Open }) (heard_first (record e { phase = phase.Open })) same
            (half_known dest e is h).1;
      }

  acknowledged_sound : setting.ours at ≡ true → (dest : ℕ) (e : EndState) → by_id t dest ≡ Some e
      → (is_half e.phase && has_remote r e) ≡ true → By (Told setting n.made from at false s.source dest) →
      Sound setting (n.event + 1) (does setting n at (opened N t (record e { phase = phase.Open }) s []))
  acknowledged_sound here dest e is h by =
      let same = first_same (record e { phase = phase.Open }) in
      let old = found_id n at (has_id dest) e (heard_first (record e { phase = phase.Open })).id same.id is in
      opened_sound setting n at e (heard_first (record e { phase = phase.Open })) now
      (found_stands setting (n.event + 1) n at (has_id dest) e now is) (ack_moves dest e is h) r
      (same.remote ∙ named) (step.Opened e.id) (heard_opening N (record e { phase = phase.Open }) s).sent old.0 old.1
      here (go by)
      (first_plain (heard_first (record e { phase = phase.Open })) (record e { phase = phase.Open }))
    where
      named : e.remote ≡ Some r
      named = own_remote r e.asked e.remote (half_known dest e is h).1
          (and_parts (is_half e.phase) (has_remote r e) h).1

      go : By (Told setting n.made from at false s.source dest)
          → By (Told setting n.made from at (not e.listener) s.source e.id)
      go (inl strange) = inl strange
      go (inr told) =
          inr (
            told.0,
            subst (λ k. Told setting n.made from at (not e.listener) s.source k)
                (sym (eqb-true e.id dest (found_passes setting (n.event + 1) n at (has_id dest) e now is)))
                (subst (λ l. Told setting n.made from at (not l) s.source dest)
                (sym (half_known dest e is h).0) told.1),
          )

  pub ack_sound : setting.ours at ≡ true → (dest : ℕ) (o : Option EndState) → by_id t dest ≡ o
      → By (Told setting n.made from at false s.source dest)
      → Sound setting (n.event + 1) (does setting n at (ack_came N t r s o))
  ack_sound here dest None is by = ignored_sound setting n at now
  ack_sound here dest (Some e) is by = go (is_half e.phase && has_remote r e) refl
    where
      go : (b : Bool) → (is_half e.phase && has_remote r e) ≡ b
          → Sound setting (n.event + 1)
          (does setting n at (cond b (opened N t (record e { phase = phase.Open }) s []) (ignored t)))
      go true h = acknowledged_sound here dest e is h by
      go false h = ignored_sound setting n at now

  -- ---- answers

  -- it asked there, and knew no end yet
  record IsAsking (e : EndState) : Type 0 where
    listener : e.listener ≡ false
    remote : e.remote ≡ None
    here : e.asked ≡ from

  is_asking : (dest : ℕ) (e : EndState) (there : Option EndState) → by_id t dest ≡ Some e → is_answered e r there
      ≡ true → IsAsking e
  is_asking dest e there is h =
      let opens = and_parts (is_opening e.phase) (same_address e.asked from)
      (and_parts (is_opening e.phase && same_address e.asked from) (is_none there) h).0 in
      let asks : (e.listener ≡ false)
      × (e.remote ≡ None) = subst (λ p. Knows p e.listener e.asked e.remote) (opening_is e.phase opens.0)
      (known (has_id dest) e is) in
      record { listener = asks.0; remote = asks.1; here = same_address-true e.asked from opens.1 }

  pub answer_moves : (dest : ℕ) (e : EndState) (there : Option EndState) → by_id t dest ≡ Some e
      → is_answered e r there ≡ true → Moves e (heard_first (connected_to e r))
  answer_moves dest e there is h =
      let same = first_same (connected_to e r) in
      let a = is_asking dest e there is h in
      record {
        id = same.id;
        listener = same.listener;
        asked = same.asked;
        remote = λ q g. absurd (let none = a.remote in cc);
        opened = λ g. ap has_opened same.phase;
        known = same_known (connected_to e r) (heard_first (connected_to e r)) same
            (s.source, ap Some (λ i. record { address = sym a.here i; id = s.source }));
      }

  answered_sound : setting.ours at ≡ true → (dest : ℕ) (e : EndState) (there : Option EndState) → by_id t dest ≡ Some e
      → is_answered e r there ≡ true → By (Told setting n.made from at true s.source dest) →
      Sound setting (n.event + 1)
      (does setting n at (opened N t (connected_to e r) s (confirming N (connected_to e r) ∷ [])))
  answered_sound here dest e there is h by =
      let same = first_same (connected_to e r) in
      let old = found_id n at (has_id dest) e (heard_first (connected_to e r)).id same.id is in
      opened_sound setting n at e (heard_first (connected_to e r)) now
      (found_stands setting (n.event + 1) n at (has_id dest) e now is)
      (answer_moves dest e there is h) r same.remote (step.Opened e.id)
      (confirming N (connected_to e r) ∷ (heard_opening N (connected_to e r) s).sent) old.0 old.1 here (go by)
      (says, first_plain (heard_first (connected_to e r)) (connected_to e r))
    where
      a : IsAsking e
      a = is_asking dest e there is h

      says : Says (heard_first (connected_to e r)) (confirming N (connected_to e r))
      says =
          let same = first_same (connected_to e r) in
          record {
            id = sym same.id;
            listens = same.listener ∙ a.listener;
            remote = same.remote ∙ ap Some (λ i. record { address = (sym a.here ∙ sym same.asked) i; id = s.source });
          }

      go : By (Told setting n.made from at true s.source dest)
          → By (Told setting n.made from at (not e.listener) s.source e.id)
      go (inl strange) = inl strange
      go (inr told) =
          inr (
            told.0,
            subst (λ k. Told setting n.made from at (not e.listener) s.source k)
                (sym (eqb-true e.id dest (found_passes setting (n.event + 1) n at (has_id dest) e now is)))
                (subst (λ l. Told setting n.made from at (not l) s.source dest) (sym a.listener) told.1),
          )

  not_true : (b : Bool) → not b ≡ true → b ≡ false
  not_true false h = refl
  not_true true h = absurd (true≢false (sym h))

  confirmed_sound : (dest : ℕ) (e : EndState) → by_id t dest ≡ Some e → confirms_again e r ≡ true
      → Sound setting (n.event + 1) (does setting n at (stayed t step.Again e (confirming N e ∷ [])))
  confirmed_sound dest e is h =
      let opens = and_parts (is_open e.phase) (not e.listener)
      (and_parts (is_open e.phase && not e.listener) (has_remote r e) h).0 in
      let reaches : Reaches e.asked e.remote =
      subst (λ p. Knows p e.listener e.asked e.remote) (open_is e.phase opens.0) (known (has_id dest) e is) in
      stayed_sound setting n at (has_id dest) e step.Again (confirming N e ∷ []) now is
      (reaches_said e false (not_true e.listener opens.1) reaches, tt)

  pub answer_sound : setting.ours at ≡ true → (dest : ℕ) (there o : Option EndState) → by_id t dest ≡ o
      → By (Told setting n.made from at true s.source dest)
      → Sound setting (n.event + 1) (does setting n at (answer_came N t r s there o))
  answer_sound here dest there None is by = ignored_sound setting n at now
  answer_sound here dest there (Some e) is by = go (is_answered e r there) refl (confirms_again e r) refl
    where
      go : (b : Bool) → is_answered e r there ≡ b → (c : Bool) → confirms_again e r ≡ c →
          Sound setting (n.event + 1)
          (does setting n at (cond b (opened N t (connected_to e r) s (confirming N (connected_to e r) ∷ []))
          (cond c (stayed t step.Again e (confirming N e ∷ [])) (ignored t))))
      go true h c g = answered_sound here dest e there is h by
      go false h true g = confirmed_sound dest e is g
      go false h false g = ignored_sound setting n at now

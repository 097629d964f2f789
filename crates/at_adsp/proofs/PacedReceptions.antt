-- How far the ends of a network go on at a segment that comes.
use Rattle.std.proofs.Common.{◌≡◌, ℕ, ◌+◌, ◌≤◌, Bool, true, false, cond, [], ◌∷◌, Option, Some, None, refl, sym, ap}
use Rattle.std.proofs.Common.{subst, ◌∙◌, arith}
use Rattle.std.specs.Prelude.{find, is_none, ◌==◌, ◌&&◌}
use Rattle.std.proofs.lemmas.Bool.{true≢false, and_parts}
use Rattle.at_ddp.specs.Address.{same_address}
use Rattle.at_ddp.specs.declared.address.Address.{Address}
use Rattle.at_ddp.proofs.Alls.{all_found}
use Rattle.at_ddp.proofs.Octets.{same_address-true}
use Rattle.at_adsp_frame.specs.Segments.{Content, Part, Open}
use Rattle.at_adsp_frame.specs.declared.segment.OpenKind.{OpenKind}
use Rattle.at_adsp_frame.specs.declared.segment.OpenKind.TheVariants.{Request, Acknowledgement}
use Rattle.at_adsp_frame.specs.declared.segment.OpenKind.TheVariants.{RequestAndAcknowledgement, Denial}
use Rattle.at_adsp_end.specs.Ends.{EndState, answering, confirming, denying, half_end, has_opened, has_remote, id_of}
use Rattle.at_adsp_end.specs.Ends.{is_half, is_open, is_opening}
use Rattle.at_adsp_end.specs.Hearing.{heard, told}
use Rattle.at_adsp_end.specs.Positions.{whole}
use Rattle.at_adsp_end.specs.declared.phase.Phase.TheVariants as phase
use Rattle.at_adsp_end.specs.declared.remote.Remote.{Remote}
use Rattle.at_adsp_end.specs.declared.change.EndChange.TheVariants as step
use Rattle.at_adsp_ends.specs.Openings.{ack_came, answer_came, answers_again, confirms_again, connected_to, denial_came}
use Rattle.at_adsp_ends.specs.Openings.{ignored, is_answered, opened, request_came, room_for}
use Rattle.at_adsp_ends.specs.Receiving.{any_request_came, opening_came, part_came, segment_came, settled}
use Rattle.at_adsp_ends.specs.Tables.{EndTable, by_id, by_remote, freed, has_id, next_id, stayed, without_end}
use Rattle.at_adsp.specs.Network.{Setting, Network, MakesInTime, NoneNames, does, hears, is_end, named}
use Rattle.at_adsp.specs.Orders.{whole_numbered}
use Rattle.at_adsp.specs.Streams.{Nothing}
use Rattle.at_adsp.proofs.Distinct.{drawn}
use Rattle.at_adsp.proofs.EndMoves.{half_is, heard_quiet, open_is, opening_is, quiet_opened}
use Rattle.at_adsp.proofs.PacedCalls.{kept_pace, quiet_pace}
use Rattle.at_adsp.proofs.PacedBirths.{made_pace}
use Rattle.at_adsp.proofs.PacedNetworks.{PaceOf, PaceOn, pace_later}
use Rattle.at_adsp.proofs.PacedHearings.{heard_advances, heard_follows}
use Rattle.at_adsp.proofs.Paces.{TellsOf, control_tells}
use Rattle.at_adsp.proofs.Receptions.{ack_moves, answer_moves, own_remote}
use Rattle.at_adsp.proofs.Sound.{Knows, Lawful, Reaches, Sound, Stands, reached}
use Rattle.at_adsp.proofs.StrangeWires.{asked_there}
use Rattle.at_adsp.proofs.Steps.{found_passes, found_stands, later, s as stood, stands_known}
use Rattle.at_adsp.proofs.PacedOpenings.{keeps_here, opened_pace, stayed_pace}

module _ (room : ℕ) (setting : Setting) (n : Network) (at from : Address) (s : Content)
    (sound : Sound (whole_numbered setting) n.event n) (pace : PaceOf room setting.ours n.event n)
    (fits : setting.ours from ≡ true → s.window ≤ room)
    (tells : (b : ℕ) → named (whole_numbered setting) n.made (Some (record { address = from; id = s.source })) ≡ Some b
    → TellsOf room s.source (pace.marks b) s) where
  abbrev W : Setting
  W = whole_numbered setting

  abbrev t : EndTable
  t = n.tables at

  abbrev r : Remote
  r = record { address = from; id = s.source }

  now : Sound W (n.event + 1) n
  now = later W n sound

  abbrev pace_now : PaceOf room setting.ours (n.event + 1) n
  pace_now = pace_later room setting.ours n pace

  abbrev Now : Network → Type 0
  Now m = PaceOn room setting.ours pace.marks n m

  nothing_new : Now (does W n at (ignored t))
  nothing_new = kept_pace room setting.ours n at at t [] (pace.rooms at) tt tt sound.past pace_now

  -- ---- requests

  room_pace : (o : Option ℕ) → ((id : ℕ) → o ≡ Some id → next_id t ≡ Some id)
      → ((id : ℕ) → (room_for whole t r o).answer ≡ step.Made id → NoneNames n at id)
      → Now (does W n at (room_for whole t r o))
  room_pace None draws makes =
      kept_pace room setting.ours n at from t (denying s.source ∷ []) (pace.rooms at) (
        record {
          window = omega arith;
          tells = λ m. record { source = refl; first = omega arith; next = omega arith; window = omega arith };
        },
        tt,
      )
      ((λ plain. plain), tt) sound.past pace_now
  room_pace (Some id) draws makes =
      let space = pace.rooms at in
      made_pace room W n at (half_end t.rooms id r) sound
      (record {
        drawn = drawn t id (sound.next at) (draws id refl);
        known = (refl, (s.source, refl));
        unopened = refl;
        unnamed = makes id refl;
      }) pace (refl, refl)
      (record { queue = λ is. omega arith; space = space; unread = omega arith }) (step.Made id) (answering whole
      (half_end t.rooms id r) ∷ []) (
        record {
          window = omega (arith, space);
          tells = λ m. record { source = refl; first = omega arith; next = omega arith; window = omega (arith, space) };
        },
        tt,
      )
      ((λ plain. plain), tt)

  request_pace : (o : Option EndState) → by_remote t r ≡ o
      → ((id : ℕ) → (request_came whole t r o).answer ≡ step.Made id → NoneNames n at id)
      → Now (does W n at (request_came whole t r o))
  request_pace None is makes = room_pace (cond t.listening (next_id t) None) (draws t.listening) makes
    where
      draws : (b : Bool) → (id : ℕ) → cond b (next_id t) None ≡ Some id → next_id t ≡ Some id
      draws true id h = h
      draws false id h = absurd (cc)
  request_pace (Some e) is makes = go (answers_again e)
    where
      go : (b : Bool) → Now
          (does W n at (cond b (stayed t step.Again e (answering whole e ∷ [])) (ignored t)))
      go true =
          stayed_pace room W n at (has_remote r) e now is sound.past pace_now (answering whole e ∷ []) (
            control_tells room (setting.ours e.asked) e false (Open RequestAndAcknowledgement (id_of e.remote)) refl
                (keeps_here room W n at (has_remote r) e now is sound.past pace_now),
            tt,
          )
          ((λ plain. plain), tt)
      go false = nothing_new

  any_pace : (b : Bool) → ((id : ℕ) → (any_request_came whole t r b).answer ≡ step.Made id → NoneNames n at id)
      → Now (does W n at (any_request_came whole t r b))
  any_pace true makes = nothing_new
  any_pace false makes = request_pace (by_remote t r) refl makes

  -- ---- an end opens

  ack_pace : (dest : ℕ) (o : Option EndState) → by_id t dest ≡ o
      → Now (does W n at (ack_came whole t r s o))
  ack_pace dest None is = nothing_new
  ack_pace dest (Some e) is = go (is_half e.phase && has_remote r e) refl
    where
      go : (b : Bool) → (is_half e.phase && has_remote r e) ≡ b
          → Now
          (does W n at (cond b (opened whole t (record e { phase = phase.Open }) s []) (ignored t)))
      go true h =
          let both = and_parts (is_half e.phase) (has_remote r e) h in
          let half = half_is e.phase both.0 in
          let known : (e.listener ≡ true) × Reaches e.asked e.remote =
          subst (λ p. Knows p e.listener e.asked e.remote) half
          (stands_known W (n.event + 1) n at e now (found_stands W (n.event + 1) n at (has_id dest) e now is)) in
          opened_pace room setting n at from s sound pace fits tells dest e (record e { phase = phase.Open }) [] is
          (record {
            id = refl;
            sender = refl;
            receiver = refl;
            space = refl;
            asked = refl;
            remote = own_remote r e.asked e.remote known.1 both.1;
            unopened = ap has_opened half;
            opens = refl;
          })
          (sym (reached phase.Half e.listener e.asked e.remote r known (own_remote r e.asked e.remote known.1 both.1)))
          (ack_moves W n at from s sound dest e is h) (λ k. tt) tt
      go false h = nothing_new

  answer_pace : (dest : ℕ) (there o : Option EndState) → by_id t dest ≡ o
      → Now (does W n at (answer_came whole t r s there o))
  answer_pace dest there None is = nothing_new
  answer_pace dest there (Some e) is = go (is_answered e r there) refl (confirms_again e r)
    where
      go : (b : Bool) → is_answered e r there ≡ b → (c : Bool) →
          Now
          (does W n at (cond b (opened whole t (connected_to e r) s (confirming whole (connected_to e r) ∷ []))
          (cond c (stayed t step.Again e (confirming whole e ∷ [])) (ignored t))))
      go true h c =
          let opens = opening_is e.phase
          (and_parts (is_opening e.phase) (same_address e.asked from)
          (and_parts (is_opening e.phase && same_address e.asked from) (is_none there) h).0).0 in
          opened_pace room setting n at from s sound pace fits tells dest e (connected_to e r) (confirming whole
          (connected_to e r) ∷ []) is
          (record {
            id = refl;
            sender = refl;
            receiver = refl;
            space = refl;
            asked = refl;
            remote = refl;
            unopened = ap has_opened opens;
            opens = refl;
          })
          (same_address-true e.asked from
          (and_parts (is_opening e.phase) (same_address e.asked from)
          (and_parts (is_opening e.phase && same_address e.asked from) (is_none there) h).0).1)
          (answer_moves W n at from s sound dest e there is h)
          (λ k. (
            control_tells room (setting.ours e.asked) (connected_to e r) false
                (Open Acknowledgement (id_of (connected_to e r).remote)) refl k,
            tt,
          ))
          ((λ plain. plain), tt)
      go false h true =
          stayed_pace room W n at (has_id dest) e now is sound.past pace_now (confirming whole e ∷ []) (
            control_tells room (setting.ours e.asked) e false (Open Acknowledgement (id_of e.remote)) refl
                (keeps_here room W n at (has_id dest) e now is sound.past pace_now),
            tt,
          )
          ((λ plain. plain), tt)
      go false h false = nothing_new

  denial_pace : (o : Option EndState) → Now (does W n at (denial_came t from o))
  denial_pace None = nothing_new
  denial_pace (Some e) = go (is_opening e.phase && same_address e.asked from)
    where
      go : (b : Bool) → Now (does W n at (cond b (freed t (step.Denied e.id) e) (ignored t)))
      go true = kept_pace room setting.ours n at e.asked (without_end t e.id) []
          (pace.rooms at) tt tt sound.past pace_now
      go false = nothing_new

  -- ---- other segments

  -- what comes to an open end that has its sender as remote is from its peer
  from_peer : (e : EndState) (st : Stands W n.made at e) → find (has_remote r) t.ends ≡ Some e → e.phase ≡ phase.Open
      → (b : ℕ) → st.it.stream.peer ≡ Some b → TellsOf room s.source (pace.marks b) s
  from_peer e st is opens b peer =
      let known : Reaches e.asked e.remote = subst (λ p. Knows p e.listener e.asked e.remote) opens
      (stands_known W (n.event + 1) n at e now st) in
      let remote = own_remote r e.asked e.remote known (found_passes W (n.event + 1) n at (has_remote r) e now is) in
      let law = (all_found (Lawful W.ours) (is_end at e.id) n.made st.it now.lawful st.newest).0 in
      let was : has_opened st.it.last.phase ≡ true = ap (λ (x : EndState). has_opened x.phase) st.last
      ∙ ap has_opened opens in
      tells b (ap (named W n.made) (sym remote) ∙ sym st.names ∙ sym (ap (λ c. cond c st.it.names None) was)
      ∙ sym law.peer ∙ peer)

  segment_pace : (o : Option EndState) → by_remote t r ≡ o
      → Now (does W n at (segment_came whole t s o))
  segment_pace None is = nothing_new
  segment_pace (Some e) is = go (is_open e.phase) refl
    where
      go : (b : Bool) → is_open e.phase ≡ b
          → Now (does W n at (cond b (settled t (heard whole e (told whole e s))) (ignored t)))
      go true h =
          let opens = open_is e.phase h in
          let quiet = heard_quiet whole e (told whole e s) opens in
          quiet_pace room Nothing W n at (has_remote r) e (heard whole e (told whole e s)).after now is quiet pace_now
          (heard whole e (told whole e s)).step (heard whole e (told whole e s)).sent
          (heard_advances room (setting.ours e.asked) e s
          (λ is_ours. fits (ap setting.ours (sym (asked_there W (n.event + 1) n at from s.source e now is h))
          ∙ is_ours)))
          (λ unopened. absurd (true≢false
          (sym (quiet_opened e (heard whole e (told whole e s)).after quiet ∙ ap has_opened opens) ∙ unopened)))
          (λ b peer g. heard_follows room e (pace.marks b) s.source s
          (from_peer e (stood Nothing W n at (has_remote r) e (heard whole e (told whole e s)).after now is quiet)
          is opens b peer) g) sound.past
      go false h = nothing_new

  -- ---- every segment

  opening_pace : (kind : OpenKind) (dest : ℕ)
      → ((id : ℕ) → (opening_came whole t r s kind dest).answer ≡ step.Made id → NoneNames n at id)
      → Now (does W n at (opening_came whole t r s kind dest))
  opening_pace Request dest makes = any_pace (s.source == 0) makes
  opening_pace Acknowledgement dest makes = ack_pace dest (by_id t dest) refl
  opening_pace RequestAndAcknowledgement dest makes = answer_pace dest (by_remote t r) (by_id t dest) refl
  opening_pace Denial dest makes = denial_pace (by_id t dest)

  part_pace : (part : Part) → ((id : ℕ) → (part_came whole t r s part).answer ≡ step.Made id → NoneNames n at id)
      → Now (does W n at (part_came whole t r s part))
  part_pace (Open kind dest) makes = opening_pace kind dest makes
  part_pace other makes = segment_pace (by_remote t r) refl

  pub hears_pace : MakesInTime W n at from s → Now (hears W n at from s)
  hears_pace makes = part_pace s.body makes

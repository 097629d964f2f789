-- What a segment that comes leaves of what is written and read in a network of ends of streams.
use Rattle.std.proofs.Common.{◌≡◌, ℕ, ◌+◌, Bool, true, false, cond, List, [], ◌∷◌, ◌++◌, Option, Some, None, refl, sym}
use Rattle.std.proofs.Common.{ap, subst, ◌∙◌}
use Rattle.std.specs.Prelude.{find, is_none, ◌==◌, ◌&&◌}
use Rattle.std.specs.List.{AllByRecursion}
use Rattle.std.proofs.lemmas.Bool.{true≢false, and_parts}
use Rattle.at_ddp.specs.Address.{same_address}
use Rattle.at_ddp.specs.declared.address.Address.{Address}
use Rattle.at_ddp.proofs.Alls.{all_found}
use Rattle.at_adsp_frame.specs.Segments.{Content, Part, Open}
use Rattle.at_adsp_frame.specs.declared.segment.OpenKind.{OpenKind}
use Rattle.at_adsp_frame.specs.declared.segment.OpenKind.TheVariants.{Request, Acknowledgement}
use Rattle.at_adsp_frame.specs.declared.segment.OpenKind.TheVariants.{RequestAndAcknowledgement, Denial}
use Rattle.at_adsp_end.specs.Ends.{EndState, answering, confirming, denying, half_end, has_opened, has_remote}
use Rattle.at_adsp_end.specs.Ends.{is_closed, is_half, is_open, is_opening, no_receiver}
use Rattle.at_adsp_end.specs.Hearing.{heard, told}
use Rattle.at_adsp_end.specs.Positions.{whole}
use Rattle.at_adsp_end.specs.Sending.{acks}
use Rattle.at_adsp_end.specs.declared.phase.Phase.TheVariants as phase
use Rattle.at_adsp_end.specs.declared.remote.Remote.{Remote}
use Rattle.at_adsp_end.specs.declared.change.EndChange.TheVariants as step
use Rattle.at_adsp_ends.specs.Openings.{ack_came, answer_came, answers_again, confirms_again, connected_to, denial_came}
use Rattle.at_adsp_ends.specs.Openings.{heard_opening, ignored, is_answered, opened, request_came, room_for}
use Rattle.at_adsp_ends.specs.Receiving.{any_request_came, opening_came, part_came, segment_came, settled}
use Rattle.at_adsp_ends.specs.Tables.{EndTable, by_id, by_remote, freed, has_id, next_id, stayed}
use Rattle.at_adsp.specs.Network.{Setting, Network, MakesInTime, NoneNames, does, hears, is_end, named}
use Rattle.at_adsp.specs.Orders.{whole_numbered}
use Rattle.at_adsp.specs.Streams.{Nothing}
use Rattle.at_adsp.proofs.Carries.{Carries, CarriesPart}
use Rattle.at_adsp.proofs.Changes.{Moves}
use Rattle.at_adsp.proofs.Distinct.{drawn}
use Rattle.at_adsp.proofs.EndMoves.{half_is, hearing_same, heard_quiet, open_is, opening_is, quiet_opened}
use Rattle.at_adsp.proofs.FlowCalls.{kept_flow, quiet_flow}
use Rattle.at_adsp.proofs.Flows.{EndFlows, FlowOf, changed_flow, flow_later, flowed, made_flow}
use Rattle.at_adsp.proofs.Hears.{Reader, heard_reads, hearing_receiver}
use Rattle.at_adsp.proofs.Logs.{Log}
use Rattle.at_adsp.proofs.Readers.{reading_begins}
use Rattle.at_adsp.proofs.Receptions.{ack_moves, answer_moves, own_remote}
use Rattle.at_adsp.proofs.Senders.{Writes}
use Rattle.at_adsp.proofs.Sound.{Knows, Lawful, Reaches, Sound, Stands}
use Rattle.at_adsp.proofs.Steps.{found_id, found_passes, found_stands, later, s as stood, stands_known}
use Rattle.at_adsp.proofs.Writing.{first_goes, heard_goes}

module _ (setting : Setting) (n : Network) (at from : Address) (s : Content)
    (sound : Sound (whole_numbered setting) n.event n) (flow : FlowOf n.event n)
    (carries : (b : ℕ) → named (whole_numbered setting) n.made (Some (record { address = from; id = s.source }))
    ≡ Some b → CarriesPart (flow.logs b) s.first s.body) where
  abbrev W : Setting
  W = whole_numbered setting

  abbrev t : EndTable
  t = n.tables at

  abbrev r : Remote
  r = record { address = from; id = s.source }

  now : Sound W (n.event + 1) n
  now = later W n sound

  abbrev flow_now : FlowOf (n.event + 1) n
  flow_now = flow_later n flow

  nothing_new : FlowOf (n.event + 1) (does W n at (ignored t))
  nothing_new = kept_flow n at at [] (λ l. tt) flow_now

  -- ---- requests

  room_flow : (o : Option ℕ) → ((id : ℕ) → o ≡ Some id → next_id t ≡ Some id)
      → ((id : ℕ) → (room_for whole t r o).answer ≡ step.Made id → NoneNames n at id)
      → FlowOf (n.event + 1) (does W n at (room_for whole t r o))
  room_flow None draws makes = kept_flow n at from (denying s.source ∷ []) (λ l. (tt, tt)) flow_now
  room_flow (Some id) draws makes =
      made_flow W n at (half_end t.rooms id r) sound
      (record {
        drawn = drawn t id (sound.next at) (draws id refl);
        known = (refl, (s.source, refl));
        unopened = refl;
        unnamed = makes id refl;
      }) flow (refl, refl)
      (step.Made id) (answering whole (half_end t.rooms id r) ∷ []) (λ l. (tt, tt))

  request_flow : (o : Option EndState)
      → ((id : ℕ) → (request_came whole t r o).answer ≡ step.Made id → NoneNames n at id)
      → FlowOf (n.event + 1) (does W n at (request_came whole t r o))
  request_flow None makes = room_flow (cond t.listening (next_id t) None) (draws t.listening) makes
    where
      draws : (b : Bool) → (id : ℕ) → cond b (next_id t) None ≡ Some id → next_id t ≡ Some id
      draws true id h = h
      draws false id h = absurd (cc)
  request_flow (Some e) makes = go (answers_again e)
    where
      go : (b : Bool) → FlowOf (n.event + 1)
          (does W n at (cond b (stayed t step.Again e (answering whole e ∷ [])) (ignored t)))
      go true = kept_flow n at e.asked (answering whole e ∷ []) (λ l. (tt, tt)) flow_now
      go false = nothing_new

  any_flow : (b : Bool) → ((id : ℕ) → (any_request_came whole t r b).answer ≡ step.Made id → NoneNames n at id)
      → FlowOf (n.event + 1) (does W n at (any_request_came whole t r b))
  any_flow true makes = nothing_new
  any_flow false makes = request_flow (by_remote t r) makes

  -- ---- an end opens

  -- an end that was found under this identifier, and was not opened before, opens as this one and hears the segment
  record Opens (e f : EndState) : Type 0 where
    id : f.id ≡ e.id
    sender : f.sender ≡ e.sender
    receiver : f.receiver ≡ e.receiver
    unopened : has_opened e.phase ≡ false
    unclosed : is_closed e.phase ≡ false
    opens : f.phase ≡ phase.Open

  opened_flow : (dest : ℕ) (e f : EndState) (first : List Content) → by_id t dest ≡ Some e → Opens e f
      → Moves e (heard_opening whole f s).after → ((l : List Log) → AllByRecursion (Carries f.id l) first) →
      FlowOf (n.event + 1) (does W n at (opened whole t f s first))
  opened_flow dest e f first is o moves says =
      let same = hearing_same whole f s.window (acks whole f.sender s.next) in
      let there = found_id n at (has_id dest) e (heard_opening whole f s).after.id (same.id ∙ o.id) is in
      changed_flow Nothing W n at e (heard_opening whole f s).after now stands moves flow_now
      (first ++ (heard_opening whole f s).sent)
      (first_goes stands.it.stream.written (flow.logs stands.it.stream.birth) f s first (ap is_closed o.opens)
      (subst (Writes stands.it.stream.written (flow.logs stands.it.stream.birth)) (sym o.sender)
      (was.writer.writes o.unclosed)) (says (flow.logs stands.it.stream.birth)))
      (λ unopened. absurd (true≢false (sym (ap has_opened (same.phase ∙ o.opens)) ∙ unopened)))
      (λ b peer. reads b) (step.Opened f.id) there.0 there.1
    where
      stands : Stands W n.made at e
      stands = found_stands W (n.event + 1) n at (has_id dest) e now is

      was : EndFlows flow.logs stands.it.stream e
      was = flowed Nothing W n at e (heard_opening whole f s).after now stands moves flow_now

      -- nothing was read
      reads : (b : ℕ) → Reader stands.it.stream.read (flow.logs b) (heard_opening whole f s).after.receiver
      reads b =
          let none = was.begins o.unopened in
          subst (Reader stands.it.stream.read (flow.logs b))
          (sym (hearing_receiver f s.window (acks whole f.sender s.next) ∙ o.receiver ∙ none.1))
          (subst (λ got. Reader got (flow.logs b) no_receiver) (sym none.0) (reading_begins (flow.logs b)))

  ack_flow : (dest : ℕ) (o : Option EndState) → by_id t dest ≡ o
      → FlowOf (n.event + 1) (does W n at (ack_came whole t r s o))
  ack_flow dest None is = nothing_new
  ack_flow dest (Some e) is = go (is_half e.phase && has_remote r e) refl
    where
      go : (b : Bool) → (is_half e.phase && has_remote r e) ≡ b
          → FlowOf (n.event + 1) (does W n at
          (cond b (opened whole t (record e { phase = phase.Open }) s []) (ignored t)))
      go true h =
          let half = half_is e.phase (and_parts (is_half e.phase) (has_remote r e) h).0 in
          opened_flow dest e (record e { phase = phase.Open }) [] is
          (record {
            id = refl;
            sender = refl;
            receiver = refl;
            unopened = ap has_opened half;
            unclosed = ap is_closed half;
            opens = refl;
          }) (ack_moves W n at from s sound dest e is h) (λ l. tt)
      go false h = nothing_new

  answer_flow : (dest : ℕ) (there o : Option EndState) → by_id t dest ≡ o
      → FlowOf (n.event + 1) (does W n at (answer_came whole t r s there o))
  answer_flow dest there None is = nothing_new
  answer_flow dest there (Some e) is = go (is_answered e r there) refl (confirms_again e r)
    where
      go : (b : Bool) → is_answered e r there ≡ b → (c : Bool) →
          FlowOf (n.event + 1) (does W n at
          (cond b (opened whole t (connected_to e r) s (confirming whole (connected_to e r) ∷ []))
          (cond c (stayed t step.Again e (confirming whole e ∷ [])) (ignored t))))
      go true h c =
          let opens = opening_is e.phase
          (and_parts (is_opening e.phase) (same_address e.asked from)
          (and_parts (is_opening e.phase && same_address e.asked from) (is_none there) h).0).0 in
          opened_flow dest e (connected_to e r) (confirming whole (connected_to e r) ∷ []) is
          (record {
            id = refl;
            sender = refl;
            receiver = refl;
            unopened = ap has_opened opens;
            unclosed = ap is_closed opens;
            opens = refl;
          }) (answer_moves W n at from s sound dest e there is h)
          (λ l. ((refl, tt), tt))
      go false h true = kept_flow n at e.asked (confirming whole e ∷ []) (λ l. (tt, tt)) flow_now
      go false h false = nothing_new

  denial_flow : (o : Option EndState) → FlowOf (n.event + 1) (does W n at (denial_came t from o))
  denial_flow None = nothing_new
  denial_flow (Some e) = go (is_opening e.phase && same_address e.asked from)
    where
      go : (b : Bool) → FlowOf (n.event + 1) (does W n at (cond b (freed t (step.Denied e.id) e) (ignored t)))
      go true = kept_flow n at e.asked [] (λ l. tt) flow_now
      go false = nothing_new

  -- ---- other segments

  -- what comes to an open end that has its sender as remote is from its peer
  from_peer : (e : EndState) (st : Stands W n.made at e) → find (has_remote r) t.ends ≡ Some e → e.phase ≡ phase.Open
      → (b : ℕ) → st.it.stream.peer ≡ Some b → CarriesPart (flow.logs b) s.first s.body
  from_peer e st is opens b peer =
      let known : Reaches e.asked e.remote = subst (λ p. Knows p e.listener e.asked e.remote) opens
      (stands_known W (n.event + 1) n at e now st) in
      let remote = own_remote r e.asked e.remote known (found_passes W (n.event + 1) n at (has_remote r) e now is) in
      let law = (all_found (Lawful W.ours) (is_end at e.id) n.made st.it now.lawful st.newest).0 in
      let was : has_opened st.it.last.phase ≡ true = ap (λ (x : EndState). has_opened x.phase) st.last
      ∙ ap has_opened opens in
      carries b (ap (named W n.made) (sym remote) ∙ sym st.names ∙ sym (ap (λ c. cond c st.it.names None) was)
      ∙ sym law.peer ∙ peer)

  segment_flow : (o : Option EndState) → by_remote t r ≡ o
      → FlowOf (n.event + 1) (does W n at (segment_came whole t s o))
  segment_flow None is = nothing_new
  segment_flow (Some e) is = go (is_open e.phase) refl
    where
      go : (b : Bool) → is_open e.phase ≡ b
          → FlowOf (n.event + 1) (does W n at (cond b (settled t (heard whole e (told whole e s))) (ignored t)))
      go true h =
          let opens = open_is e.phase h in
          let quiet = heard_quiet whole e (told whole e s) opens in
          quiet_flow Nothing W n at (has_remote r) e (heard whole e (told whole e s)).after now is quiet flow_now
          (heard whole e (told whole e s)).step (heard whole e (told whole e s)).sent
          (λ w l g. heard_goes w l e s (ap is_closed opens) g)
          (λ b got peer g. heard_reads got (flow.logs b) e s
          (from_peer e (stood Nothing W n at (has_remote r) e (heard whole e (told whole e s)).after now is quiet)
          is opens b peer) g)
          (λ unopened. absurd (true≢false
          (sym (quiet_opened e (heard whole e (told whole e s)).after quiet ∙ ap has_opened opens) ∙ unopened)))
      go false h = nothing_new

  -- ---- every segment

  opening_flow : (kind : OpenKind) (dest : ℕ)
      → ((id : ℕ) → (opening_came whole t r s kind dest).answer ≡ step.Made id → NoneNames n at id)
      → FlowOf (n.event + 1) (does W n at (opening_came whole t r s kind dest))
  opening_flow Request dest makes = any_flow (s.source == 0) makes
  opening_flow Acknowledgement dest makes = ack_flow dest (by_id t dest) refl
  opening_flow RequestAndAcknowledgement dest makes = answer_flow dest (by_remote t r) (by_id t dest) refl
  opening_flow Denial dest makes = denial_flow (by_id t dest)

  part_flow : (part : Part) → ((id : ℕ) → (part_came whole t r s part).answer ≡ step.Made id → NoneNames n at id)
      → FlowOf (n.event + 1) (does W n at (part_came whole t r s part))
  part_flow (Open kind dest) makes = opening_flow kind dest makes
  part_flow other makes = segment_flow (by_remote t r) refl

  pub hears_flow : MakesInTime W n at from s → FlowOf (n.event + 1) (hears W n at from s)
  hears_flow makes = part_flow s.body makes

use Rattle.std.proofs.Common.{[], sym, subst, ◌∙◌}
use Rattle.std.proofs.lemmas.List.{append-nil}
use Rattle.at_adsp_end.specs.Ends.{EndState}
use Rattle.at_adsp_end.specs.Loads.{HasRoomTo}
use Rattle.at_adsp_end.specs.Positions.{wire}
use Rattle.at_adsp_end.specs.Sending.{hearing}
use Rattle.at_adsp_end.specs.declared.phase.Phase.TheVariants as phase
use Rattle.at_adsp_end.proofs.HearingLemmas.{hearing_opened}
use Rattle.at_adsp_end.proofs.LoadLemmas.{failed}
use Rattle.at_adsp_end.proofs.end.End.open_half.Goals as goal

pub returns-in_err-make_room-clause-memory : goal.returns-in_err-make_room-clause-memory
returns-in_err-make_room-clause-memory g c h =
    let e = c.args.self.now in
    let w = c.advance_of-advance.result.window in
    let a = c.advance_of-advance.result.acks in
    let same = (λ i. (hearing wire (record e { phase = phase.Open }) (sym c.advance_of-advance.ensures.window i)
    (sym c.advance_of-advance.ensures.acks i)).sent) ∙ sym (hearing_opened e e.remote phase.Open w a) in
    failed (c.in_err-make_room.ensures.succeeds [] (c.none.ensures.is e.asked)
    (subst (HasRoomTo c.args.out.now e.asked) (same ∙ sym (append-nil (hearing wire e w a).sent)) h))

pub note_acknowledgement-requires-clause-room : goal.note_acknowledgement-requires-clause-room
note_acknowledgement-requires-clause-room g c =
    let o = c.self.inside in
    let e : EndState = record {
      id = o.id;
      listener = o.listener;
      asked = o.asked;
      remote = o.remote;
      phase = o.phase;
      sender = o.outgoing.sender;
      receiver = record { received = o.received; unread = o.unread.items };
      ticks = o.ticks;
      receive_room = o.unread.capacity;
      send_room = o.outgoing.room;
    } in
    let w = c.advance_of-advance.result.window in
    let a = c.advance_of-advance.result.acks in
    let ok = rw (← c.self.view_is) at c.in_ok-make_room.ensures.ok in
    subst (HasRoomTo c.make_room.new.out e.asked)
    (append-nil (hearing wire e w a).sent ∙ hearing_opened e e.remote phase.Open w a)
    (ok [] (c.none.ensures.is e.asked))

use Rattle.std.proofs.Common.{[], ◌∷◌, ◌++◌, refl, sym, subst, ◌∙◌}
use Rattle.std.specs.Prelude.{Some}
use Rattle.at_adsp_end.specs.Ends.{EndState, confirming}
use Rattle.at_adsp_end.specs.Loads.{HasRoomTo}
use Rattle.at_adsp_end.specs.Positions.{wire}
use Rattle.at_adsp_end.specs.Sending.{hearing}
use Rattle.at_adsp_end.specs.declared.phase.Phase.TheVariants as phase
use Rattle.at_adsp_end.proofs.HearingLemmas.{hearing_opened}
use Rattle.at_adsp_end.proofs.LoadLemmas.{failed, room_swap}
use Rattle.at_adsp_end.proofs.end.End.open.Goals as goal

pub returns-in_err-make_room-clause-memory : goal.returns-in_err-make_room-clause-memory
returns-in_err-make_room-clause-memory g c h =
    let e = c.args.self.now in
    let opened = record e { remote = Some c.args.remote; phase = phase.Open } in
    let w = c.advance_of-advance.result.window in
    let a = c.advance_of-advance.result.acks in
    let same = (λ i. (hearing wire opened (sym c.advance_of-advance.ensures.window i)
    (sym c.advance_of-advance.ensures.acks i)).sent) ∙ sym (hearing_opened e (Some c.args.remote) phase.Open w a) in
    let here = subst (λ l. HasRoomTo c.args.out.now e.asked ((confirming wire opened ∷ []) ++ l)) same h in
    failed (c.in_err-make_room.ensures.succeeds (confirming wire opened ∷ [])
    (c.of_one.ensures.is e.asked (confirming wire opened) refl)
    (room_swap c.args.out.now e.asked (confirming wire opened ∷ []) (hearing wire e w a).sent here))

pub unwrap-requires : goal.unwrap-requires
unwrap-requires g c =
    let o = c.self.inside in
    let e : EndState = record {
      id = o.id;
      listener = o.listener;
      asked = o.asked;
      remote = o.remote;
      phase = o.phase;
      sender = o.outgoing.sender;
      receiver = record { received = o.received; unread = o.unread.items };
      ticks = o.ticks;
      receive_room = o.unread.capacity;
      send_room = o.outgoing.room;
    } in
    let answer = confirming wire (record e { remote = Some c.args.remote; phase = phase.Open }) in
    let heard = hearing wire e c.advance_of-advance.result.window c.advance_of-advance.result.acks in
    let ok = rw (← c.self.view_is) at c.in_ok-make_room.ensures.ok in
    (c.confirm.ensures.room heard.sent (room_swap c.make_room.new.out e.asked heard.sent (answer ∷ [])
    (ok (answer ∷ []) (c.of_one.ensures.is e.asked answer refl)))).0

pub note_acknowledgement-requires-clause-room : goal.note_acknowledgement-requires-clause-room
note_acknowledgement-requires-clause-room g c =
    let o = c.self.inside in
    let e : EndState = record {
      id = o.id;
      listener = o.listener;
      asked = o.asked;
      remote = o.remote;
      phase = o.phase;
      sender = o.outgoing.sender;
      receiver = record { received = o.received; unread = o.unread.items };
      ticks = o.ticks;
      receive_room = o.unread.capacity;
      send_room = o.outgoing.room;
    } in
    let answer = confirming wire (record e { remote = Some c.args.remote; phase = phase.Open }) in
    let w = c.advance_of-advance.result.window in
    let a = c.advance_of-advance.result.acks in
    let heard = hearing wire e w a in
    let ok = rw (← c.self.view_is) at c.in_ok-make_room.ensures.ok in
    let left = c.confirm.ensures.room heard.sent (room_swap c.make_room.new.out e.asked heard.sent (answer ∷ [])
    (ok (answer ∷ []) (c.of_one.ensures.is e.asked answer refl))) in
    subst (HasRoomTo c.confirm.new.out e.asked) (hearing_opened e (Some c.args.remote) phase.Open w a) left.1

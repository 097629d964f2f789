use Rattle.at_adsp_end.specs.Cuts.{items_in}
use Rattle.at_adsp_end.specs.Hearing.{if_asked, taking}
use Rattle.at_adsp_end.specs.Positions.{wire}
use Rattle.at_adsp_end.specs.Sending.{hearing}
use Rattle.at_adsp_end.proofs.LoadLemmas.{failed, room_less}
use Rattle.at_adsp_end.proofs.end.End.hear_data.Goals as goal

pub returns-in_err-make_room-clause-memory : goal.returns-in_err-make_room-clause-memory
returns-in_err-make_room-clause-memory g c h =
    let e = c.args.self.now in
    let after = taking wire (hearing wire e c.args.advance.window c.args.advance.acks).after
    (items_in c.args.arrival.now.end c.args.arrival.now.bytes.now) in
    failed (c.in_err-make_room.ensures.succeeds _ (c.if_asked.ensures.is e.asked after) h)

pub note_acknowledgement-requires-clause-room : goal.note_acknowledgement-requires-clause-room
note_acknowledgement-requires-clause-room g c =
    let e = c.args.self.now in
    room_less c.make_room.new.out e.asked _ (if_asked wire c.args.ack e)
    (c.in_ok-make_room.ensures.ok _ (c.if_asked.ensures.is e.asked e))

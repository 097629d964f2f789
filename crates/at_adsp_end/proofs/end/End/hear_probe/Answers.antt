use Rattle.at_adsp_end.specs.Hearing.{if_asked}
use Rattle.at_adsp_end.specs.Positions.{wire}
use Rattle.at_adsp_end.proofs.LoadLemmas.{room_less}
use Rattle.at_adsp_end.proofs.end.End.hear_probe.Goals as goal

pub note_acknowledgement-requires-clause-room : goal.note_acknowledgement-requires-clause-room
note_acknowledgement-requires-clause-room g c =
    let e = c.args.self.now in
    room_less c.make_room.new.out e.asked _ (if_asked wire c.args.ack e)
    (c.in_ok-make_room.ensures.ok _ (c.if_asked.ensures.is e.asked e))

use Rattle.std.proofs.Common.{length, ap, arith}
use Rattle.at_atp_responder.proofs.record.send_if.Goals as goal

pub returns-clause-room : goal.returns-clause-room
returns-clause-room g c =
    λ n h. (c.send.ensures.room n 586 h (omega (arith, ap length c.data_.ensures, c.requires.fits))).1

use Rattle.std.proofs.Common.{length}
use Rattle.at_atp_responder.proofs.record.+send_answer.Given as goal

abbrev pub decreases-send_answer : goal.decreases-send_answer
decreases-send_answer g l = length l.packets.now

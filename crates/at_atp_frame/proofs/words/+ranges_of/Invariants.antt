use Rattle.std.proofs.Common.{length}
use Rattle.at_atp_frame.proofs.words.+ranges_of.Given as goal

abbrev pub decreases-ranges_of : goal.decreases-ranges_of
decreases-ranges_of g l = length l.packets.now

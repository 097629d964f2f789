use Rattle.std.proofs.Common.{length}
use Rattle.at_atp_requester.proofs.part.+completes.Given as goal

abbrev pub decreases-completes : goal.decreases-completes
decreases-completes g l = length l.parts.now

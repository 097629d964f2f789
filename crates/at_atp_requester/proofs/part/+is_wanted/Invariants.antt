use Rattle.std.proofs.Common.{length}
use Rattle.at_atp_requester.proofs.part.+is_wanted.Given as goal

abbrev pub decreases-is_wanted : goal.decreases-is_wanted
decreases-is_wanted g l = length l.parts.now

use Rattle.at_adsp.proofs.MovingSegments.{never_back_whole, never_back_wire}
use Rattle.at_adsp.proofs.laws.ends_never_move_back.Goals as goal

pub returns-clause-whole : goal.returns-clause-whole
returns-clause-whole c = never_back_whole

pub returns-clause-cable : goal.returns-clause-cable
returns-clause-cable c = never_back_wire

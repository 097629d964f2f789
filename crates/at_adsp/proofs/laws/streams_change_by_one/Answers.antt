use Rattle.at_adsp.proofs.laws.streams_change_by_one.Goals as goal
use Rattle.at_adsp.proofs.StreamSegments.{change_by_one}

pub returns : goal.returns
returns c = change_by_one

use Rattle.at_adsp.proofs.FewNears.{few_are_near}
use Rattle.at_adsp.proofs.laws.few_segments_are_near.Goals as goal

pub returns : goal.returns
returns c = few_are_near

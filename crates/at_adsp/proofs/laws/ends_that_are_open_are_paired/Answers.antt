use Rattle.at_adsp.proofs.Histories.{are_paired}
use Rattle.at_adsp.proofs.laws.ends_that_are_open_are_paired.Goals as goal

pub returns : goal.returns
returns c = are_paired

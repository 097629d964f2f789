use Rattle.at_adsp_ends.proofs.IgnoredLemmas.{received_idle}
use Rattle.at_adsp_ends.proofs.laws.what_is_ignored_does_nothing.Goals as goal

pub returns : goal.returns
returns c = received_idle

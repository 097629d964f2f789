use Rattle.at_adsp_ends.proofs.CountLemmas.{received_few}
use Rattle.at_adsp_ends.proofs.laws.few_segments_are_sent.Goals as goal

pub returns : goal.returns
returns c = received_few

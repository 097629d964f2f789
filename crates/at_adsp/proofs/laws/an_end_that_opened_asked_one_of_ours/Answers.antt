use Rattle.at_adsp.proofs.OurHistories.{asked_ours}
use Rattle.at_adsp.proofs.laws.an_end_that_opened_asked_one_of_ours.Goals as goal

pub returns : goal.returns
returns c = asked_ours

use Rattle.at_adsp.proofs.laws.what_is_sent_is_lawful.Goals as goal
use Rattle.at_adsp.proofs.RangeRuns.{all_lawful}

pub returns : goal.returns
returns c = all_lawful

use Rattle.at_schedule.proofs.OrderLemmas.{events_after}
use Rattle.at_schedule.proofs.laws.setup_comes_first.Goals as goal

pub returns : goal.returns
returns c = events_after

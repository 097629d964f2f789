use Rattle.at_capture.proofs.AskedLemmas.{recalls_nothing}
use Rattle.at_capture.proofs.asked.nothing_asked.Goals as goal

pub returns : goal.returns
returns g c = recalls_nothing c.new.result c.new.ensures.empty

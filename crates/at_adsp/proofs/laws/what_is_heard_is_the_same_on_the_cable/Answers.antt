use Rattle.at_adsp.proofs.Wires.{heard_wired}
use Rattle.at_adsp.proofs.laws.what_is_heard_is_the_same_on_the_cable.Goals as goal

pub returns : goal.returns
returns c = heard_wired

use Rattle.at_adsp.proofs.Meets.{opens_with}
use Rattle.at_adsp.proofs.laws.an_end_that_opens_has_a_peer.Goals as goal

pub returns : goal.returns
returns c = opens_with

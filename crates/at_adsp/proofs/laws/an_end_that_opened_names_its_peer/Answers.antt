use Rattle.at_adsp.proofs.Remotes.{names_peer}
use Rattle.at_adsp.proofs.laws.an_end_that_opened_names_its_peer.Goals as goal

pub returns : goal.returns
returns c = names_peer

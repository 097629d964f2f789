use Rattle.at_nbp.proofs.AskingLemmas.{none_left}
use Rattle.at_nbp.proofs.laws.below_8_an_identifier_is_free.Goals as goal

pub returns : goal.returns
returns c = λ t fits none. none_left t none

use Rattle.at_adsp_ends.proofs.IdLemmas.{none_left}
use Rattle.at_adsp_ends.proofs.laws.below_16_an_identifier_is_free.Goals as goal

pub returns : goal.returns
returns c = λ t fits none. none_left t none

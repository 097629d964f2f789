use Rattle.at_atp_requester.proofs.RequestLemmas.{number_left}
use Rattle.at_atp_requester.proofs.laws.below_32_a_number_is_free.Goals as goal

pub returns : goal.returns
returns c = number_left

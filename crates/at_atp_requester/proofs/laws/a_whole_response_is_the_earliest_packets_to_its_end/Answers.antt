use Rattle.at_atp_requester.proofs.ResponseLemmas.{whole_is_response}
use Rattle.at_atp_requester.proofs.laws.a_whole_response_is_the_earliest_packets_to_its_end.Goals as goal

pub returns : goal.returns
returns c = whole_is_response

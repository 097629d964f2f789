use Rattle.at_atp_requester.proofs.RequesterLemmas.{wants_what_is_missing, hands_up_the_whole}
use Rattle.at_atp_requester.proofs.laws.a_requester_hands_up_whole_responses.Goals as goal

pub returns : goal.returns
returns g c = record { wants = wants_what_is_missing g.row.A.Denot; ends = hands_up_the_whole g.row.A.Denot }

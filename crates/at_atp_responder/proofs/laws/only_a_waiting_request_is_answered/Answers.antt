use Rattle.at_atp_responder.proofs.AnsweringLemmas.{answerable}
use Rattle.at_atp_responder.proofs.laws.only_a_waiting_request_is_answered.Goals as goal

pub returns : goal.returns
returns c = answerable

use Rattle.at_atp_responder.proofs.WaitLemmas.{taken_new_waits}
use Rattle.at_atp_responder.proofs.laws.a_new_request_waits.Goals as goal

pub returns : goal.returns
returns c = taken_new_waits

use Rattle.at_atp_responder.proofs.WaitLemmas.{asked_few}
use Rattle.at_atp_responder.proofs.laws.no_more_is_sent_than_answered.Goals as goal

pub returns : goal.returns
returns c = asked_few

use Rattle.at_atp_responder.proofs.ReplyLemmas.{all_of_answer}
use Rattle.at_atp_responder.proofs.laws.what_is_sent_is_of_the_answer.Goals as goal

pub returns : goal.returns
returns c = all_of_answer

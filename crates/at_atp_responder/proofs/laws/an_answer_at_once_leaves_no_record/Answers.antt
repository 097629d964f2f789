use Rattle.at_atp_responder.proofs.AtOnceLemmas.{asks, goes}
use Rattle.at_atp_responder.proofs.laws.an_answer_at_once_leaves_no_record.Goals as goal

pub returns-clause-asked : goal.returns-clause-asked
returns-clause-asked c = asks

pub returns-clause-gone : goal.returns-clause-gone
returns-clause-gone c = goes

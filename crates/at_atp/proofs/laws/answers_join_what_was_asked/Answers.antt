use Rattle.at_atp.proofs.Newest.{still_asked}
use Rattle.at_atp.proofs.laws.answers_join_what_was_asked.Goals as goal

pub returns : goal.returns
returns c = still_asked

use Rattle.at_atp.proofs.laws.what_is_sent_is_lawful.Goals as goal
use Rattle.at_atp.proofs.LawfulHistories.{lawfully_sent}

pub returns : goal.returns
returns g c = lawfully_sent g.row.A.Denot

use Rattle.at_atp.proofs.Turns.{ends_quietly}
use Rattle.at_atp.proofs.laws.an_end_is_answered_by_nothing.Goals as goal

pub returns : goal.returns
returns g c = ends_quietly g.row.A.Denot

use Rattle.at_atp.proofs.Askings.{changes_asked}
use Rattle.at_atp.proofs.laws.what_was_asked_changes_by_one.Goals as goal

pub returns : goal.returns
returns g c = changes_asked g.row.A.Denot

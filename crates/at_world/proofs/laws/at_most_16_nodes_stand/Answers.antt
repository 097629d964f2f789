use Rattle.at_world.proofs.LawfulSetups.{opening_few}
use Rattle.at_world.proofs.laws.at_most_16_nodes_stand.Goals as goal

pub returns : goal.returns
returns g c = opening_few g.row.A.Denot

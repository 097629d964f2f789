use Rattle.std.proofs.Common.{rules}
use Rattle.at_world.proofs.world.World.open.Goals as goal

pub returns : goal.returns
returns g c = search rules

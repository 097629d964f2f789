use Rattle.std.proofs.Common.{rules}
use Rattle.at_world.proofs.timely.is_no_later.Goals as goal

pub returns-in-Some-last : goal.returns-in-Some-last
returns-in-Some-last g c = search rules

use Rattle.std.proofs.Common.{refl}
use Rattle.at_ddp.proofs.listed.Listed.from_vec.Goals as goal

pub returns : goal.returns
returns g c = refl

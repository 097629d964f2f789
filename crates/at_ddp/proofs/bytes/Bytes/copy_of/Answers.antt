use Rattle.std.proofs.Common.{rules}
use Rattle.at_ddp.proofs.bytes.Bytes.copy_of.Goals as goal

pub returns : goal.returns
returns g c = search rules

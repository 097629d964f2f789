use Rattle.std.proofs.Common.{arith}
use Rattle.at_ddp.proofs.pascal.Pascal.bytes.Goals as goal

pub returns-clause-fits : goal.returns-clause-fits
returns-clause-fits c = omega arith

use Rattle.std.proofs.Common.{rules}
use Rattle.at_ddp.proofs.pascal.Pascal.new.Goals as goal

pub returns-clause-fits : goal.returns-clause-fits
returns-clause-fits c = search rules

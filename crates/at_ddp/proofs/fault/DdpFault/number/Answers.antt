use Rattle.std.proofs.Common.{rules}
use Rattle.at_ddp.proofs.fault.DdpFault.number.Goals as goal

pub returns-in-Truncated : goal.returns-in-Truncated
returns-in-Truncated c = search rules

use Rattle.std.proofs.Common.{rules}
use Rattle.at_setup.proofs.refusal.Refusal.number.Goals as goal

pub returns-in-NoDatagram : goal.returns-in-NoDatagram
returns-in-NoDatagram c = search rules

pub returns-in-NotForNode : goal.returns-in-NotForNode
returns-in-NotForNode c = search rules

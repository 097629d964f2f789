use Rattle.std.proofs.Common.{rules}
use Rattle.at_ddp.proofs.outbox.Outbox.reserve.Goals as goal

pub returns-clause-ok : goal.returns-clause-ok
returns-clause-ok g c = search rules

pub returns-clause-succeeds : goal.returns-clause-succeeds
returns-clause-succeeds g c = search rules

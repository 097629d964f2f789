use Rattle.std.proofs.Common.{rules}
use Rattle.at_ddp.proofs.outbox.Outbox.room.Goals as goal

pub returns-clause-ok : goal.returns-clause-ok
returns-clause-ok g c = search rules

use Rattle.std.proofs.Common.{Ok, Err, append-nil, sym}
use Rattle.at_drive.proofs.sending.send.Goals as goal

pub returns-in-Ok-clause-sent : goal.returns-in-Ok-clause-sent
returns-in-Ok-clause-sent g c = (Ok c.in-Ok.field-0, c.in-Ok.ensures, sym (append-nil c.args.faults.now.items))

pub returns-in-Err-clause-sent : goal.returns-in-Err-clause-sent
returns-in-Err-clause-sent g c = (Err c.in-Err.field-0, c.in-Err.ensures, rw c.unwrap.ensures at c.push.ensures.items)

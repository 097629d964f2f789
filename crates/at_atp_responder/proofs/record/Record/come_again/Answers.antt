use Rattle.std.proofs.Common.{rules}
use Rattle.at_atp_responder.proofs.record.Record.come_again.Goals as goal

pub returns-in_ok-room-in-Answered-clause-ok : goal.returns-in_ok-room-in-Answered-clause-ok
returns-in_ok-room-in-Answered-clause-ok g c = search rules

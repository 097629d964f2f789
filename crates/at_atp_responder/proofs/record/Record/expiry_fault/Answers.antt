use Rattle.std.proofs.Common.{rules}
use Rattle.at_atp_responder.proofs.record.Record.expiry_fault.Goals as goal

pub returns-in-Waiting : goal.returns-in-Waiting
returns-in-Waiting g c = search rules

use Rattle.std.proofs.Common.{rules}
use Rattle.at_atp_requester.proofs.transaction.Transaction.take_retry.Goals as goal

pub returns-clause-state : goal.returns-clause-state
returns-clause-state g c = search rules

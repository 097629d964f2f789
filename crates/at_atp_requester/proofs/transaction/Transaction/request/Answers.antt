use Rattle.std.proofs.Common.{rules}
use Rattle.at_atp_requester.proofs.transaction.Transaction.request.Goals as goal

pub returns-clause-request : goal.returns-clause-request
returns-clause-request g c = search rules

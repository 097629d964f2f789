use Rattle.std.proofs.Common.{rules}
use Rattle.at_atp_requester.proofs.transaction.Transaction.keep.Goals as goal

pub returns-then-not-arriving-clause-ok : goal.returns-then-not-arriving-clause-ok
returns-then-not-arriving-clause-ok g c = search rules

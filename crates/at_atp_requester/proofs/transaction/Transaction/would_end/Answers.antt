use Rattle.std.proofs.Common.{rules}
use Rattle.at_atp_requester.proofs.transaction.Transaction.would_end.Goals as goal

pub returns-then-wants : goal.returns-then-wants
returns-then-wants g c = search rules

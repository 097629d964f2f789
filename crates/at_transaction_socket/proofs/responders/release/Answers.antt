use Rattle.std.proofs.Common.{rules}
use Rattle.at_transaction_socket.proofs.responders.release.Goals as goal

pub returns-in-Released-clause-report : goal.returns-in-Released-clause-report
returns-in-Released-clause-report g c = search rules

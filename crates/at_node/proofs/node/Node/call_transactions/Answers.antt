use Rattle.std.proofs.Common.{rules}
use Rattle.at_node.proofs.node.Node.call_transactions.Goals as goal

pub returns-in-Ask : goal.returns-in-Ask
returns-in-Ask g c = search rules

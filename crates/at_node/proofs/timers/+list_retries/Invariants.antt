use Rattle.std.proofs.Common.{◌-◌, length}
use Rattle.at_node.proofs.timers.+list_retries.Given as goal

abbrev pub decreases-list_retries : goal.decreases-list_retries
decreases-list_retries g l = length l.part.now.transactions.requester.standing - l.place

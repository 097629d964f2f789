use Rattle.std.proofs.Common.{◌-◌, length}
use Rattle.at_node.proofs.timers.+list_lookups.Given as goal

abbrev pub decreases-list_lookups : goal.decreases-list_lookups
decreases-list_lookups g l = length l.socket.now.lookups.searches - l.place

use Rattle.std.proofs.Common.{◌-◌, length}
use Rattle.at_node.proofs.timers.+list_ticks.Given as goal

abbrev pub decreases-list_ticks : goal.decreases-list_ticks
decreases-list_ticks g l = length l.streams.now.ends - l.place

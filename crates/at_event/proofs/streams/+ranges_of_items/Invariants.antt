use Rattle.std.proofs.Common.{length}
use Rattle.at_event.proofs.streams.+ranges_of_items.Given as goal

abbrev pub decreases-ranges_of_items : goal.decreases-ranges_of_items
decreases-ranges_of_items l = length l.items.now

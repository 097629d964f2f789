use Rattle.std.proofs.Common.{length}
use Rattle.at_event.proofs.zones.+ranges_of_texts.Given as goal

abbrev pub decreases-ranges_of_texts : goal.decreases-ranges_of_texts
decreases-ranges_of_texts l = length l.texts.now

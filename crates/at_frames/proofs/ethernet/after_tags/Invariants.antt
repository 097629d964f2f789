use Rattle.std.proofs.Common.{◌≡◌, length}
use Rattle.at_frames.specs.Ethernet.{after_tags}
use Rattle.at_frames.proofs.ethernet.after_tags.Given as goal

-- what follows the tags of the rest follows those of all
abbrev pub invariant-loop-rest : goal.invariant-loop-rest
invariant-loop-rest l = after_tags l.rest ≡ after_tags l.fn.bytes

abbrev pub decreases-loop-rest : goal.decreases-loop-rest
decreases-loop-rest l = length l.rest

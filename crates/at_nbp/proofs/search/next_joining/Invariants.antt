use Rattle.std.proofs.Common.{◌≡◌, ◌≤◌, length}
use Rattle.at_nbp.specs.Lookups.{all_joined}
use Rattle.at_nbp.proofs.search.next_joining.Given as goal

abbrev pub invariant-loop-tuple : goal.invariant-loop-tuple
invariant-loop-tuple g l =
    (all_joined l.pattern l.finds.keys l.initial.tuples ≡ all_joined l.pattern l.finds.keys l.tuples)
    × (length l.tuples ≤ length l.initial.tuples)

abbrev pub decreases-loop-tuple : goal.decreases-loop-tuple
decreases-loop-tuple g l = length l.tuples

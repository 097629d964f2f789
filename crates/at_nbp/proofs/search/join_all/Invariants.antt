use Rattle.std.proofs.Common.{◌≡◌, ◌≤◌, length}
use Rattle.indexmap.specs.IndexSet.{spare}
use Rattle.at_nbp.specs.Lookups.{all_joined}
use Rattle.at_nbp.proofs.search.join_all.Given as goal

abbrev pub invariant-loop-find : goal.invariant-loop-find
invariant-loop-find g l =
    (all_joined l.pattern l.initial.finds.keys l.initial.tuples ≡ all_joined l.pattern l.finds.keys l.tuples)
    × (length l.tuples ≤ spare l.finds)

abbrev pub decreases-loop-find : goal.decreases-loop-find
decreases-loop-find g l = length l.tuples

use Rattle.std.proofs.Common.{◌≤◌, vec_capacity}
use Rattle.at_nbp.proofs.ListLemmas.{AreWritten}
use Rattle.at_nbp.proofs.packet.push_tuples.Given as goal

abbrev pub invariant-loop-tuple : goal.invariant-loop-tuple
invariant-loop-tuple g l = AreWritten l.initial.out.items l.tuples l.tuple-index l.out.items (vec_capacity l.out)
    × (vec_capacity l.initial.out ≤ vec_capacity l.out)

use Rattle.at_nbp.proofs.ListLemmas.{AreMeasured}
use Rattle.at_nbp.proofs.packet.spelled_lens.Given as goal

abbrev pub invariant-loop-tuple : goal.invariant-loop-tuple
invariant-loop-tuple l = AreMeasured l.tuples l.tuple-index l.len

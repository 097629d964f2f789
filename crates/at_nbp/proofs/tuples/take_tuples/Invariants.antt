use Rattle.at_nbp.proofs.UnreadLemmas.{AreTaken}
use Rattle.at_nbp.proofs.tuples.take_tuples.Given as goal

abbrev pub invariant-loop : goal.invariant-loop
invariant-loop l = AreTaken l.counter l.bytes l.rest

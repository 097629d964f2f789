use Rattle.at_faults.proofs.InputLemmas.{IsLeft}
use Rattle.at_faults.proofs.input.check_length.Given as goal

abbrev pub invariant-loop : goal.invariant-loop
invariant-loop g l = IsLeft (g.R.Read.remaining l.initial.reader) (g.R.Read.remaining l.reader) l.left

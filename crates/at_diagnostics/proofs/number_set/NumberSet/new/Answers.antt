use Rattle.at_diagnostics.proofs.NumberSetLemmas.{none_in}
use Rattle.at_diagnostics.proofs.number_set.NumberSet.new.Goals as goal

pub returns : goal.returns
returns c = λ n h. none_in 256 n h

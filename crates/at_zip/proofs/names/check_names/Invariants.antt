use Rattle.at_zip.specs.Names.{BeginsWithNames}
use Rattle.at_zip.proofs.names.check_names.Given as goal

abbrev pub invariant-loop : goal.invariant-loop
invariant-loop l = BeginsWithNames l.counter l.bytes l.rest

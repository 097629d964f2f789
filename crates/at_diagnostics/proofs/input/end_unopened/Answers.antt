use Rattle.std.proofs.Common.{refl, []}
use Rattle.std.specs.Prelude.{codes}
use Rattle.at_print.proofs.PrintLemmas.{Prints-trans}
use Rattle.at_diagnostics.proofs.input.end_unopened.Goals as goal

pub returns-clause-ended : goal.returns-clause-ended
returns-clause-ended g c = (
  refl,
  Prints-trans g.W.Paper.page c.args.printer.now c.write_all.new.self c.finish-status.new.self (codes "fault 0\n") []
      c.write_all.ensures c.finish-status.ensures.printed,
  (c.tell_unopened.new.self, c.tell_unopened.ensures, c.tell_writes.ensures),
)

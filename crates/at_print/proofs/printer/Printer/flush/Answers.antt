use Rattle.at_print.proofs.PrintLemmas.{settled_by}
use Rattle.at_print.proofs.printer.Printer.flush.Goals as goal

pub returns-then-not-self-clause-settled : goal.returns-then-not-self-clause-settled
returns-then-not-self-clause-settled g c =
    settled_by g.W.Paper.settles (c.args.self.now).writer c.settle.new.self c.settle.result c.is_err-self.result
    c.is_err-self.ensures.value c.settle.ensures.settled

use Rattle.std.proofs.Common.{sym, subst}
use Rattle.at_print.specs.Printers.{Prints}
use Rattle.at_print.proofs.PrintLemmas.{Prints-nothing}
use Rattle.at_drive_text.specs.Driven.{report_part}
use Rattle.at_drive_text.proofs.news.write_report.Goals as goal

pub returns-in-None : goal.returns-in-None
returns-in-None g c =
    let none = sym c.in-None.ensures.value in
    subst (λ found. Prints g.W.Paper.page c.args.printer.now c.args.printer.now (report_part c.args.at found))
    (sym none) (Prints-nothing g.W.Paper.page c.args.printer.now)

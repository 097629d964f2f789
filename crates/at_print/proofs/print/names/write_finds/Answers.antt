use Rattle.std.specs.Prelude.{codes}
use Rattle.at_print.specs.Reports.Names.{find_text, found_text}
use Rattle.at_print.proofs.PrintLemmas.{Prints-trans}
use Rattle.at_print.proofs.ReportLemmas.{Prints-next}
use Rattle.at_print.proofs.print.names.write_finds.Goals as goal

pub loop-find-preserved : goal.loop-find-preserved
loop-find-preserved g c =
    Prints-next g.W.Paper.page found_text c.args.finds.now c.loop-find.find-index
    c.find-item.result c.find-item.result
    c.args.printer.now c.loop-find.printer c.write_find.new.printer c.loop-find-test.true c.find-item.is
    c.loop-find.invariant
    (Prints-trans g.W.Paper.page c.loop-find.printer c.write_all.new.self c.write_find.new.printer
    (codes " ") (find_text c.find-item.result) c.write_all.ensures c.write_find.ensures)

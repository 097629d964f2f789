use Rattle.std.specs.Prelude.{refl}
use Rattle.at_print.proofs.ReportLemmas.{Prints-next}
use Rattle.at_drive_text.specs.Driven.{fault_line}
use Rattle.at_drive_text.proofs.news.write_faults.Goals as goal

pub loop-at-preserved : goal.loop-at-preserved
loop-at-preserved g c =
    Prints-next
    g.W.Paper.page
    fault_line
    c.args.faults.now
    c.loop-at.at-index
    0
    _
    c.args.printer.now
    c.loop-at.printer
    c.write_fault.new.printer
    c.loop-at-test.true
    refl
    c.loop-at.invariant
    c.write_fault.ensures

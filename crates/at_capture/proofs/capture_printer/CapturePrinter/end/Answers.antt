use Rattle.std.proofs.Common.{append-nil, [], subst, ◌++◌}
use Rattle.at_capture.specs.Endings.{ending_line}
use Rattle.at_capture.specs.Tallies.{end_line}
use Rattle.at_print.specs.Printers.{Prints}
use Rattle.at_print.proofs.PrintLemmas.{Prints-trans}
use Rattle.at_capture.proofs.capture_printer.CapturePrinter.end.Goals as goal

pub returns-clause-printed : goal.returns-clause-printed
returns-clause-printed g c =
    let page = g.W.Paper.page in
    let old = c.args.self.now in
    let ending = ending_line old.tally.frames c.args.read in
    let last = end_line old.tally in
    let lines = Prints-trans page old.printer c.write_ending-status.new.printer c.write_tally.new.printer ending last
    c.write_ending-status.ensures.printed c.write_tally.ensures in
    subst (Prints page old.printer c.finish-status.new.self) (append-nil (ending ++ last))
    (Prints-trans page old.printer c.write_tally.new.printer c.finish-status.new.self (ending ++ last) [] lines
    c.finish-status.ensures.printed)

pub returns-clause-told : goal.returns-clause-told
returns-clause-told g c =
    (c.write_ending-status.new.diagnostics, c.write_ending-status.ensures.told, c.tell_writes.ensures)

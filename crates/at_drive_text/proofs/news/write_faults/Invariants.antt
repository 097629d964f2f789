use Rattle.std.proofs.Common.{take}
use Rattle.std.specs.List.{flat_map}
use Rattle.at_print.specs.Printers.{Prints}
use Rattle.at_drive_text.specs.Driven.{fault_line}
use Rattle.at_drive_text.proofs.news.write_faults.Given as goal

abbrev pub invariant-loop-at : goal.invariant-loop-at
invariant-loop-at g l =
    Prints g.W.Paper.page l.fn.printer l.printer (flat_map fault_line (take l.at-index l.faults))

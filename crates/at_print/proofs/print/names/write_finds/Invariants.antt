use Rattle.std.proofs.Common.{take}
use Rattle.std.specs.List.{flat_map}
use Rattle.at_print.specs.Printers.{Prints}
use Rattle.at_print.specs.Reports.Names.{found_text}
use Rattle.at_print.proofs.print.names.write_finds.Given as goal

abbrev pub invariant-loop-find : goal.invariant-loop-find
invariant-loop-find g l =
    Prints g.W.Paper.page l.fn.printer l.printer (flat_map found_text (take l.find-index l.finds))

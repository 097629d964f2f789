use Rattle.std.proofs.Common.{take}
use Rattle.std.specs.List.{flat_map}
use Rattle.at_print.specs.Parts.{part_text}
use Rattle.at_print.specs.Printers.{Prints}
use Rattle.at_print.proofs.printer.Printer.write_each.Given as goal

abbrev pub invariant-loop-part : goal.invariant-loop-part
invariant-loop-part g l = Prints g.W.Paper.page l.fn.self l.self (flat_map part_text (take l.part-index l.parts))

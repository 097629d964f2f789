use Rattle.std.proofs.Common.{take}
use Rattle.std.specs.List.{flat_map}
use Rattle.at_print.specs.Printers.{Prints}
use Rattle.at_capture.specs.Stations.{part_text}
use Rattle.at_capture.proofs.stations.write_parts.Given as goal

abbrev pub invariant-loop-byte : goal.invariant-loop-byte
invariant-loop-byte g l =
    Prints g.W.Paper.page l.fn.printer l.printer (flat_map part_text (take l.byte-index l.bytes))

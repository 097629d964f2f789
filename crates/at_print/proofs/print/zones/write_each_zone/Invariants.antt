use Rattle.std.proofs.Common.{take}
use Rattle.std.specs.List.{flat_map}
use Rattle.at_print.specs.Printers.{Prints}
use Rattle.at_print.specs.Reports.Zones.{zone_text}
use Rattle.at_print.proofs.print.zones.write_each_zone.Given as goal

abbrev pub invariant-loop-zone : goal.invariant-loop-zone
invariant-loop-zone g l =
    Prints g.W.Paper.page l.fn.printer l.printer (flat_map zone_text (take l.zone-index l.zones))

use Rattle.std.proofs.Common.{sym, subst, take, get_or}
use Rattle.std.specs.List.{flat_map}
use Rattle.at_print.specs.Printers.{Prints}
use Rattle.at_print.proofs.PrintLemmas.{Prints-trans}
use Rattle.at_capture.specs.Stations.{part_text}
use Rattle.at_capture.proofs.StationLemmas.{parts_next}
use Rattle.at_capture.proofs.stations.write_parts.Goals as goal

pub loop-byte-preserved : goal.loop-byte-preserved
loop-byte-preserved g c =
    let bytes = c.args.bytes.now in
    let i = c.loop-byte.byte-index in
    subst (Prints g.W.Paper.page c.args.printer.now c.write_part.new.printer)
    (sym (parts_next bytes i c.loop-byte-test.true))
    (Prints-trans g.W.Paper.page c.args.printer.now c.loop-byte.printer c.write_part.new.printer
    (flat_map part_text (take i bytes)) (part_text (get_or bytes i 0)) c.loop-byte.invariant c.write_part.ensures)

use Rattle.std.specs.Prelude.{codes}
use Rattle.at_print.specs.TextWords.{text_word}
use Rattle.at_print.specs.Reports.Zones.{zone_text}
use Rattle.at_print.proofs.PrintLemmas.{Prints-trans}
use Rattle.at_print.proofs.ReportLemmas.{Prints-next}
use Rattle.at_print.proofs.print.zones.write_each_zone.Goals as goal

pub loop-zone-preserved : goal.loop-zone-preserved
loop-zone-preserved g c =
    let name = rw c.bytes.ensures.value at c.write_text.ensures in
    Prints-next g.W.Paper.page zone_text c.args.zones.now c.loop-zone.zone-index
    c.zone-item.result c.zone-item.result
    c.args.printer.now c.loop-zone.printer c.write_text.new.printer c.loop-zone-test.true c.zone-item.is
    c.loop-zone.invariant
    (Prints-trans g.W.Paper.page c.loop-zone.printer c.write_all.new.self c.write_text.new.printer
    (codes " ") (text_word c.zone-item.result) c.write_all.ensures name)

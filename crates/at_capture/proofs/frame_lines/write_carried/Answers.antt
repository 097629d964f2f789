use Rattle.at_print.proofs.PrintLemmas.{Prints-trans}
use Rattle.at_capture.proofs.frame_lines.write_carried.Goals as goal

pub returns : goal.returns
returns g c =
    let page = g.W.Paper.page in
    let end = c.write_stations.new.printer in
    let word = rw c.carrier_word.ensures at c.write_all.ensures in
    Prints-trans page c.args.printer.now c.write_beginning.new.printer end _ _ c.write_beginning.ensures
    (Prints-trans page c.write_beginning.new.printer c.write_all.new.self end _ _ word c.write_stations.ensures)

use Rattle.at_print.proofs.PrintLemmas.{Prints-trans}
use Rattle.at_capture.proofs.frame_lines.write_stations.Goals as goal

pub returns : goal.returns
returns g c =
    let page = g.W.Paper.page in
    let end = c.write_all-3.new.self in
    Prints-trans page c.args.printer.now c.write_all.new.self end _ _ c.write_all.ensures
    (Prints-trans page c.write_all.new.self c.write_station.new.printer end _ _ c.write_station.ensures
    (Prints-trans page c.write_station.new.printer c.write_all-2.new.self end _ _ c.write_all-2.ensures
    (Prints-trans page c.write_all-2.new.self c.write_station-2.new.printer end _ _ c.write_station-2.ensures
    c.write_all-3.ensures)))

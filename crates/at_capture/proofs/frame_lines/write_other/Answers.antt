use Rattle.at_print.proofs.PrintLemmas.{Prints-trans}
use Rattle.at_capture.proofs.frame_lines.write_other.Goals as goal

pub returns : goal.returns
returns g c =
    let page = g.W.Paper.page in
    let end = c.write_all-3.new.self in
    let word = rw c.reason_word.ensures at c.write_all-2.ensures in
    Prints-trans page c.args.printer.now c.write_beginning.new.printer end _ _ c.write_beginning.ensures
    (Prints-trans page c.write_beginning.new.printer c.write_all.new.self end _ _ c.write_all.ensures
    (Prints-trans page c.write_all.new.self c.write_all-2.new.self end _ _ word c.write_all-3.ensures))

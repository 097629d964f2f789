use Rattle.std.specs.Prelude.{codes}
use Rattle.at_print.proofs.PrintLemmas.{Prints-five}
use Rattle.at_capture.proofs.datagram_lines.write_short_header.Goals as goal

pub returns : goal.returns
returns g c =
    Prints-five g.W.Paper.page c.args.printer.now c.write_each.new.self c.write_each-2.new.self
    (codes "ddp short length ") _ (codes " from ") _ (codes ".") _ c.write_each.ensures c.write_each-2.ensures

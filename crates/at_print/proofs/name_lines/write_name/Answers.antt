use Rattle.at_print.proofs.NameLineLemmas.{name_prints}
use Rattle.at_print.proofs.name_lines.write_name.Goals as goal

pub returns : goal.returns
returns g c =
    name_prints g.W.Paper.page c.args.printer.now c.write_text.new.printer c.write_all.new.self
    c.write_text-2.new.printer c.write_all-2.new.self c.write_text-3.new.printer
    c.args.object.now c.args.kind.now c.args.zone.now c.write_text.ensures c.write_all.ensures c.write_text-2.ensures
    c.write_all-2.ensures c.write_text-3.ensures

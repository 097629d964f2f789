use Rattle.at_nbp.specs.Tuples.{content}
use Rattle.at_print.proofs.NameLineLemmas.{tuple_prints}
use Rattle.at_print.proofs.name_lines.write_tuple.Goals as goal

pub returns : goal.returns
returns g c =
    tuple_prints g.W.Paper.page c.args.printer.now c.write_all.new.self c.write_name.new.printer
    c.write_all-2.new.self c.write_address.new.printer c.write_each.new.self
    (content c.args.tuple.now) c.write_all.ensures c.write_name.ensures c.write_all-2.ensures c.write_address.ensures
    c.write_each.ensures

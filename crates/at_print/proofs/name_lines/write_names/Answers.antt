use Rattle.at_nbp.specs.Packets.{packet_content}
use Rattle.at_print.proofs.NameLineLemmas.{names_print}
use Rattle.at_print.proofs.name_lines.write_names.Goals as goal

pub returns : goal.returns
returns g c =
    names_print g.W.Paper.page c.args.printer.now c.write_all.new.self c.write_function.new.printer
    c.write_each.new.self c.write_tuples.new.printer (packet_content c.args.packet.now)
    c.unread-count.result c.unread-count.ensures.count c.write_all.ensures c.write_function.ensures
    c.write_each.ensures c.write_tuples.ensures

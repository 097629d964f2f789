use Rattle.at_ddp.specs.Datagram.{content}
use Rattle.at_print.proofs.PrintLemmas.{header_prints}
use Rattle.at_print.proofs.packet_lines.write_header.Goals as goal

pub returns : goal.returns
returns g c =
    header_prints g.W.Paper.page c.args.printer.now c.write_each.new.self c.write_sum.new.printer c.write_all.new.self
    c.write_address.new.printer
    c.write_all-2.new.self c.write_address-2.new.printer c.write_each-2.new.self
    (content c.args.datagram.now) c.args.rest
    c.write_each.ensures c.write_sum.ensures c.write_all.ensures c.write_address.ensures c.write_all-2.ensures
    c.write_address-2.ensures c.write_each-2.ensures

use Rattle.at_print.proofs.PrintLemmas.{request_prints}
use Rattle.at_print.proofs.packet_lines.write_request.Goals as goal

pub returns : goal.returns
returns g c =
    request_prints g.W.Paper.page c.args.printer.now c.write_all.new.self c.write_hex.new.printer
    c.write_each.new.self c.args.mask c.args.xo c.from.result c.args.timer c.args.tid c.from.ensures
    c.write_all.ensures c.write_hex.ensures c.write_each.ensures

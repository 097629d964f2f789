use Rattle.at_print.specs.Reports.Transactions.{packet_text}
use Rattle.at_print.proofs.ReportLemmas.{Prints-next, Prints-packet}
use Rattle.at_print.proofs.print.transactions.write_packets.Goals as goal

pub loop-packet-preserved : goal.loop-packet-preserved
loop-packet-preserved g c =
    let user = rw c.user.ensures at c.write_hex.ensures in
    let bytes = rw c.data_.ensures at c.write_hex-in-loop-packet.ensures in
    Prints-next g.W.Paper.page packet_text c.args.packets.now
    c.loop-packet.packet-index c.packet-item.result c.packet-item.result
    c.args.printer.now c.loop-packet.printer c.write_hex-in-loop-packet.new.printer c.loop-packet-test.true
    c.packet-item.is c.loop-packet.invariant
    (Prints-packet g.W.Paper.page c.packet-item.result c.loop-packet.printer c.write_all.new.self
    c.write_hex.new.printer c.write_all-in-loop-packet.new.self c.write_hex-in-loop-packet.new.printer
    c.write_all.ensures user c.write_all-in-loop-packet.ensures bytes)

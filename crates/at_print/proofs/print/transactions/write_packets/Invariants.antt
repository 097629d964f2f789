use Rattle.std.proofs.Common.{take}
use Rattle.std.specs.List.{flat_map}
use Rattle.at_print.specs.Printers.{Prints}
use Rattle.at_print.specs.Reports.Transactions.{packet_text}
use Rattle.at_print.proofs.print.transactions.write_packets.Given as goal

abbrev pub invariant-loop-packet : goal.invariant-loop-packet
invariant-loop-packet g l =
    Prints g.W.Paper.page l.fn.printer l.printer (flat_map packet_text (take l.packet-index l.packets))

use Rattle.std.proofs.Common.{take}
use Rattle.at_print.specs.Printers.{Prints}
use Rattle.at_drive_text.specs.Driven.{datagram_lines}
use Rattle.at_drive_text.proofs.news.write_datagrams.Given as goal

abbrev pub invariant-loop-index : goal.invariant-loop-index
invariant-loop-index g l =
    Prints g.W.Paper.page l.initial.printer l.printer (datagram_lines l.first (take l.index l.out.items))

use Rattle.std.proofs.Common.{take, drop}
use Rattle.at_print.specs.Printers.{Prints}
use Rattle.at_play.specs.Sent.{sent_lines}
use Rattle.at_play.proofs.sent.write_sent.Given as goal

abbrev pub invariant-loop-number : goal.invariant-loop-number
invariant-loop-number g l = Prints g.W.Paper.page l.initial.printer l.printer
    (sent_lines l.first (drop l.first (take l.number l.world.sent)))

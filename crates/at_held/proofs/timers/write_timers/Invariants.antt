use Rattle.std.proofs.Common.{◌≡◌, [], take}
use Rattle.std.specs.List.{flat_map}
use Rattle.at_print.specs.Printers.{Prints}
use Rattle.at_print.specs.Reports.{timer_line}
use Rattle.at_held.proofs.timers.write_timers.Given as goal

abbrev pub invariant-loop-timer : goal.invariant-loop-timer
invariant-loop-timer g l =
    Prints g.W.Paper.page l.fn.printer l.printer (flat_map (timer_line l.net) (take l.timer-index l.timers))
    × (l.timers ≡ [] → l.printer ≡ l.fn.printer)

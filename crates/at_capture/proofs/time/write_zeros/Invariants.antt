use Rattle.std.proofs.Common.{replicate}
use Rattle.at_print.specs.Printers.{Prints}
use Rattle.at_capture.proofs.time.write_zeros.Given as goal

abbrev pub invariant-loop-place : goal.invariant-loop-place
invariant-loop-place g l = Prints g.W.Paper.page l.fn.printer l.printer (replicate l._place 48)

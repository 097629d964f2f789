use Rattle.std.proofs.Common.{◌≡◌, ◌++◌, List, ℕ, length}
use Rattle.at_print.specs.Lines.{pairs}
use Rattle.at_print.specs.Printers.{Prints}
use Rattle.at_print.proofs.digits.write_pairs.Given as goal

abbrev pub decreases-loop-block : goal.decreases-loop-block
decreases-loop-block g l = length l.rest

abbrev pub invariant-loop-block : goal.invariant-loop-block
invariant-loop-block g l = (printed : List ℕ) × (l.fn.bytes ≡ printed ++ l.rest)
    × Prints g.W.Paper.page l.fn.printer l.printer (pairs printed)

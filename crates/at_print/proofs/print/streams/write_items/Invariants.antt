use Rattle.std.proofs.Common.{false, length}
use Rattle.at_print.specs.Items.{items_text}
use Rattle.at_print.proofs.PrintLemmas.{TextLeft}
use Rattle.at_print.proofs.print.streams.write_items.Given as goal

abbrev pub invariant-loop-rest : goal.invariant-loop-rest
invariant-loop-rest g l =
    TextLeft g.W.Paper.page l.fn.printer l.printer (items_text false l.fn.items) (items_text l.follows_byte l.rest)

abbrev pub decreases-loop-rest : goal.decreases-loop-rest
decreases-loop-rest g l = length l.rest

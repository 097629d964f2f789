use Rattle.std.specs.List.{flat_map}
use Rattle.at_print.specs.NameLines.{tuple_line}
use Rattle.at_print.proofs.PrintLemmas.{TextLeft}
use Rattle.at_print.proofs.name_lines.write_tuples.Given as goal

abbrev pub invariant-loop-tuple : goal.invariant-loop-tuple
invariant-loop-tuple g l = TextLeft g.W.Paper.page l.initial.printer l.printer (flat_map tuple_line l.tuples)
    (flat_map tuple_line l.tuple-iterator)

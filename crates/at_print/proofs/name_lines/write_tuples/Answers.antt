use Rattle.std.proofs.Common.{ap}
use Rattle.std.specs.List.{flat_map}
use Rattle.at_nbp.specs.Tuples.{content}
use Rattle.at_print.specs.NameLines.{tuple_line}
use Rattle.at_print.proofs.PrintLemmas.{text_ended, text_more}
use Rattle.at_print.proofs.name_lines.write_tuples.Goals as goal

pub loop-tuple-preserved : goal.loop-tuple-preserved
loop-tuple-preserved g c =
    text_more g.W.Paper.page c.args.printer.now c.loop-tuple.printer c.write_tuple.new.printer
    (flat_map tuple_line c.args.tuples.now) (flat_map tuple_line c.loop-tuple.tuple-iterator)
    (tuple_line (content c.in-Some.tuple)) (flat_map tuple_line c.next.new.self) c.loop-tuple.invariant
    (ap (flat_map tuple_line) c.in-Some.ensures.steps) c.write_tuple.ensures

pub returns : goal.returns
returns g c =
    text_ended g.W.Paper.page c.args.printer.now c.loop-tuple.printer (flat_map tuple_line c.args.tuples.now)
    (flat_map tuple_line c.loop-tuple.tuple-iterator) c.loop-tuple.invariant
    (ap (flat_map tuple_line) c.in-None.ensures.steps.0)

use Rattle.std.proofs.Common.{[], refl, subst, sym, ap, ◌∙◌}
use Rattle.std.proofs.lemmas.List.{take_all}
use Rattle.std.specs.List.{flat_map}
use Rattle.at_print.specs.Parts.{part_text}
use Rattle.at_print.specs.Printers.{Prints}
use Rattle.at_print.specs.declared.part.Part.TheVariants.{Text}
use Rattle.at_print.proofs.PrintLemmas.{parts_each}
use Rattle.at_print.proofs.ReportLemmas.{Prints-next}
use Rattle.at_print.proofs.printer.Printer.write_each.Goals as goal

pub loop-part-preserved : goal.loop-part-preserved
loop-part-preserved g c =
    Prints-next g.W.Paper.page part_text c.args.parts.now c.loop-part.part-index (Text record {
      ref_ptr =
          (0, 0);
      now = [];
    }) _
    c.args.self.now c.loop-part.self c.write_part.new.self c.loop-part-test.true refl
    c.loop-part.invariant c.write_part.ensures

pub returns : goal.returns
returns g c =
    let all = take_all c.loop-part.part-index c.args.parts.now c.loop-part-test.false in
    subst (Prints g.W.Paper.page c.args.self.now c.loop-part.self)
    (ap (flat_map part_text) all ∙ sym (parts_each c.args.parts.now)) c.loop-part.invariant

use Rattle.std.proofs.Common.{sym, ap, subst, ◌∙◌, append_assoc, drop, ◌++◌, ◌≡◌}
use Rattle.std.proofs.lemmas.Grind.{flat_map-append}
use Rattle.std.proofs.lemmas.List.{take-append-drop}
use Rattle.std.specs.List.{flat_map}
use Rattle.at_print.specs.Printers.{Prints}
use Rattle.at_print.specs.TextWords.{glyph}
use Rattle.at_print.proofs.PrintLemmas.{Prints-trans}
use Rattle.at_print.proofs.text_words.write_glyphs.Goals as goal

pub loop-rest-preserved : goal.loop-rest-preserved
loop-rest-preserved g c =
    let before = c.loop-rest.invariant in
    let rest = c.loop-rest.rest.now in
    let parts = c.split_at.ensures in
    let front = c.split_at.result.0.now in
    let after = c.split_at.result.1.now in
    let split : rest ≡ front ++ after = sym (take-append-drop 32 rest)
    ∙ ap (λ l. l ++ drop 32 rest) (sym parts.front) ∙ ap (λ l. front ++ l) (sym parts.back) in (
      before.0 ++ front,
      before.1 ∙ ap (λ l. before.0 ++ l) split ∙ sym (append_assoc before.0 front after),
      subst (Prints g.W.Paper.page c.args.printer.now c.write_block.new.printer)
          (sym (flat_map-append glyph before.0 front))
          (Prints-trans g.W.Paper.page c.args.printer.now c.loop-rest.printer c.write_block.new.printer
          (flat_map glyph before.0) (flat_map glyph front) before.2 c.write_block.ensures),
    )

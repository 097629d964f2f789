use Rattle.std.proofs.Common.{sym, ap, subst, ◌∙◌, append_assoc, drop, ◌++◌, ◌≡◌}
use Rattle.std.proofs.lemmas.List.{take-append-drop}
use Rattle.at_print.specs.Lines.{pairs}
use Rattle.at_print.specs.Printers.{Prints}
use Rattle.at_print.proofs.PrintLemmas.{Prints-trans, pairs-append}
use Rattle.at_print.proofs.digits.write_pairs.Goals as goal

pub loop-block-preserved : goal.loop-block-preserved
loop-block-preserved g c =
    let before = c.loop-block.invariant in
    let rest = c.loop-block.rest.now in
    let parts = c.in-Some.ensures.cases in
    let front = c.in-Some.block.now in
    let split : rest ≡ front ++ c.in-Some.after.now =
    sym (take-append-drop 64 rest) ∙ ap (λ l. l ++ drop 64 rest) (sym parts.1) ∙ ap (λ l. front ++ l) (sym parts.2) in (
      before.0 ++ front,
      before.1 ∙ ap (λ l. before.0 ++ l) split ∙ sym (append_assoc before.0 front c.in-Some.after.now),
      subst (Prints g.W.Paper.page c.args.printer.now c.write_block.new.printer) (sym (pairs-append before.0 front))
          (Prints-trans g.W.Paper.page c.args.printer.now c.loop-block.printer c.write_block.new.printer
          (pairs before.0) (pairs front) before.2 c.write_block.ensures),
    )

pub returns : goal.returns
returns g c =
    let before = c.loop-block.invariant in
    let rest = c.loop-block.rest.now in
    let all = ap pairs before.1 ∙ pairs-append before.0 rest in
    subst (Prints g.W.Paper.page c.args.printer.now c.write_block-2.new.printer) (sym all)
    (Prints-trans g.W.Paper.page c.args.printer.now c.loop-block.printer c.write_block-2.new.printer
    (pairs before.0) (pairs rest) before.2 c.write_block-2.ensures)

use Rattle.std.proofs.Common.{[], ◌∷◌, ◌++◌, ◌∙◌, Ok, refl, sym, ap, subst, arith}
use Rattle.std.proofs.lemmas.List.Elements.{All-nil, All-push}
use Rattle.at_drive_lines.specs.Lines.{HasNext}
use Rattle.at_drive_lines.specs.NodeLines.{Names}
use Rattle.at_drive_lines.proofs.LineLemmas.{come_on, none_come}
use Rattle.at_drive_lines.proofs.NodeLineLemmas.{first_line_of, none_names}
use Rattle.at_drive_lines.proofs.TextLemmas.{numbered_next}
use Rattle.at_drive_lines.proofs.node_line.line_of_node.Goals as goal

pub loop-lines-init : goal.loop-lines-init
loop-lines-init g c = ([], none_come (g.L.Lines.left c.args.lines.now), refl, All-nil (λ l. ¬ Names c.args.node l))

pub loop-lines-smaller : goal.loop-lines-smaller
loop-lines-smaller g c = c.advance.ensures.less (c.in_ok-advance.was ∙ ap Ok c.if-branch.true)

pub loop-lines-preserved : goal.loop-lines-preserved
loop-lines-preserved g c =
    let (read, come, numbered, others) = c.loop-lines.invariant in
    let more = c.in_ok-advance.was ∙ ap Ok c.if-branch.true in
    let line = c.line.result.now in
    let now = g.L.Lines.left c.loop-lines.lines in
    let after = g.L.Lines.left c.advance.new.self in (
      read ++ line ∷ [],
      come_on (g.L.Lines.left c.args.lines.now) read now line after come
          (subst (λ l. HasNext now l after) (sym c.line.ensures) (c.advance.ensures.next more)),
      numbered_next read line c.loop-lines.number c.saturating_add-number.result numbered
          c.saturating_add-number.ensures,
      All-push (λ l. ¬ Names c.args.node l) read line others (λ named. grind (arith, c.if-names.ensures.1 named)),
    )

pub returns-then-names-clause-found : goal.returns-then-names-clause-found
returns-then-names-clause-found g c =
    let (read, come, numbered, others) = c.loop-lines.invariant in
    let more = c.in_ok-advance.was ∙ ap Ok c.if-branch.true in
    let now = g.L.Lines.left c.loop-lines.lines in
    let after = g.L.Lines.left c.advance.new.self in
    first_line_of (g.L.Lines.left c.args.lines.now) read now c.line.result.now after c.args.node c.loop-lines.number
    come
    (subst (λ l. HasNext now l after) (sym c.line.ensures) (c.advance.ensures.next more)) numbered others
    (c.if-names.ensures.0 refl)

pub returns-clause-none : goal.returns-clause-none
returns-clause-none g c =
    let (read, come, numbered, others) = c.loop-lines.invariant in
    let none = c.in_ok-advance.was ∙ ap Ok c.if-branch.false in
    none_names (g.L.Lines.left c.args.lines.now) read (g.L.Lines.left c.loop-lines.lines) c.args.node come
    (c.advance.ensures.end none) others

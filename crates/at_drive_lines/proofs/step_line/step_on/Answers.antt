use Rattle.std.proofs.Common.{◌≡◌, ◌∷◌, ◌∙◌, false, sym, ap, subst}
use Rattle.std.proofs.lemmas.Bool.{false≢true}
use Rattle.std.specs.Prelude.{◌==◌}
use Rattle.std.specs.List.{list_any}
use Rattle.at_words.specs.Words.{words_of}
use Rattle.at_drive.specs.Steps.{node_of, numbers_of, stands_in}
use Rattle.at_drive_lines.specs.Says.{AreStep}
use Rattle.at_drive_lines.proofs.StepLemmas.{same_step_node, stands_by}
use Rattle.at_drive_lines.proofs.step_line.step_on.Goals as goal

pub returns-then-not-stands_among-clause-only : goal.returns-then-not-stands_among-clause-only
returns-then-not-stands_among-clause-only g c = λ s says stands.
    let setup = c.args.setup.now in
    let words : words_of c.args.line.now ≡ c.in-Some.word.now ∷ words_of c.next.new.self.rest.now =
    ap words_of (sym c.of-words.ensures) ∙ c.in-Some.ensures.steps in
    let here : AreStep (words_of c.args.line.now) c.in-Ok.step =
    subst (λ l. AreStep l c.in-Ok.step) (sym words) c.in-Ok.ensures.said in
    let lacks : list_any (λ n. n.node == node_of c.in-Ok.step) setup.nodes ≡ false =
    (λ i. list_any (λ n. n.node == sym c.node.ensures i) (sym c.as_slice.ensures i)) ∙ sym c.stands_among.ensures
    ∙ c.if-not-stands_among.true in
    false≢true (sym lacks ∙ stands_by (node_of c.in-Ok.step) setup.nodes
    ∙ ap (stands_in (numbers_of setup)) (same_step_node (words_of c.args.line.now) c.in-Ok.step s here says) ∙ stands)

pub returns-clause-stands : goal.returns-clause-stands
returns-clause-stands g c =
    let setup = c.args.setup.now in
    sym (stands_by (node_of c.in-Ok.step) setup.nodes)
    ∙ (λ i. list_any (λ n. n.node == sym c.node.ensures i) (sym c.as_slice.ensures i)) ∙ sym c.stands_among.ensures
    ∙ c.if-not-stands_among.false

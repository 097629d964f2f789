use Rattle.std.proofs.Common.{◌≡◌, ◌∷◌, ◌∙◌, ◌==◌, refl, sym}
use Rattle.std.specs.List.{list_any}
use Rattle.at_drive.specs.Steps.{node_of}
use Rattle.at_words.specs.Words.{words_of}
use Rattle.at_drive_lines.specs.Drafts.{Bars}
use Rattle.at_drive_lines.specs.Says.{StepSays}
use Rattle.at_drive_lines.specs.contracts.draft.DriveDraft.take_step.{A-type}
use Rattle.at_drive_lines.proofs.RefusalLemmas.{nothing_if}
use Rattle.at_drive_lines.proofs.TakeLemmas.{event_barred, stands_barred, step_adds, step_barred}
use Rattle.at_drive_lines.proofs.draft.DriveDraft.take_step.Goals as goal

pub returns-in-Err-clause-only : goal.returns-in-Err-clause-only
returns-in-Err-clause-only g c =
    let A = A-type g.row.A in
    let old = c.args.self.now in
    let ws = words_of c.args.words.rest.now in
    let line = c.args.word.now ∷ ws in
    let law = c.lines_begin_with_known_words.ensures in
    nothing_if (Unit {0}) c.in-Err.fault (StepSays c.args.word.now ws) (Bars A old line) c.in-Err.ensures.said
    (step_barred A old line law.setups law.drafts c.requires.stage c.requires.word)

pub returns-in-Err-take_event-clause-only : goal.returns-in-Err-take_event-clause-only
returns-in-Err-take_event-clause-only g c =
    let line = c.args.word.now ∷ words_of c.args.words.rest.now in
    let law = c.lines_begin_with_known_words.ensures in
    event_barred (A-type g.row.A) c.args.self.now line law.setups law.drafts c.requires.stage c.requires.word
    c.in-Err-take_event.ensures.only

pub returns-then-not-stands_among-clause-only : goal.returns-then-not-stands_among-clause-only
returns-then-not-stands_among-clause-only g c =
    let line = c.args.word.now ∷ words_of c.args.words.rest.now in
    let law = c.lines_begin_with_known_words.ensures in
    let same : list_any (λ n. n.node == node_of c.in-Ok.step) c.take_event.new.self.nodes
    ≡ list_any (λ n. n.node == c.node.result) c.nodes.result.now =
    (λ i. list_any (λ n. n.node == sym c.node.ensures i) (sym c.nodes.ensures i)) in
    stands_barred (A-type g.row.A) c.args.self.now line law.setups law.drafts c.requires.stage c.requires.word
    c.in-Ok.step c.take_event.new.self c.in-Ok.ensures.said c.lines_say_one_setup.ensures.same
    c.in_default.ensures.taken
    (same ∙ sym c.stands_among.ensures ∙ c.if-not-stands_among.true)

pub returns-clause-taken : goal.returns-clause-taken
returns-clause-taken g c =
    let old = c.args.self.now in
    let line = c.args.word.now ∷ words_of c.args.words.rest.now in
    let same : list_any (λ n. n.node == node_of c.in-Ok.step) c.take_event.new.self.nodes
    ≡ list_any (λ n. n.node == c.node.result) c.nodes.result.now =
    (λ i. list_any (λ n. n.node == sym c.node.ensures i) (sym c.nodes.ensures i)) in
    step_adds (A-type g.row.A) old line c.in-Ok.step
    (record old { setup = c.take_event.new.self }) c.lines_say_one_setup.ensures.same c.requires.stage
    c.requires.stage refl c.in_default.ensures.over c.in_default.ensures.taken c.in-Ok.ensures.said
    (same ∙ sym c.stands_among.ensures ∙ c.if-not-stands_among.false)

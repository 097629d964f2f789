use Rattle.std.proofs.Common.{◌≡◌, [], ◌∷◌, Some, Ok, cond, ℕ, refl, sym, ap, ◌∙◌}
use Rattle.std.specs.Prelude.{find, is_some}
use Rattle.at_adsp_frame.specs.Segments.{content}
use Rattle.at_adsp_end.specs.Ends.{confirming, has_remote, same_remote}
use Rattle.at_adsp_end.specs.Moves.{opened}
use Rattle.at_adsp_end.specs.Positions.{wire}
use Rattle.at_adsp_ends.specs.Openings.{confirms_again, connected_to, heard_opening}
use Rattle.at_adsp_ends.specs.Tables.{has_id}
use Rattle.at_adsp_ends.specs.Filed.{named}
use Rattle.at_adsp_ends.proofs.AnswerLemmas as answer
use Rattle.at_adsp_ends.proofs.FiledLemmas.{lent_at}
use Rattle.at_adsp_ends.proofs.Places.{end_at, named_at, none_at, test_at}
use Rattle.at_adsp_ends.proofs.MoveLemmas as move
use Rattle.at_adsp_ends.proofs.StepLemmas as steps
use Rattle.at_adsp_ends.proofs.ends.Ends.hear_answer.Goals as goal
use Rattle.at_adsp_ends.proofs.ends.Ends.hear_answer.Given.{Over}
use Rattle.at_adsp_ends.proofs.ends.Ends.hear_answer.Goals.{After-has_remote-is_taken}

taken : (g : Over) (c : After-has_remote-is_taken g)
    → c.has_remote-is_taken.result ≡ is_some (find (has_remote c.args.remote) c.self.inside.ends.items)
taken g c = rw (← c.self.view_is) at c.has_remote-is_taken.ensures

pub returns-in_default : goal.returns-in_default
returns-in_default g c =
    let none = none_at (has_id c.args.dest) c.self.inside.ends.items c.index_of.ensures.first c.in_default.is in
    rw (← c.self.view_is) (rw none record { taken = move.ignored_done _ _; memory = λ h. refl })

pub invariant_of-self : goal.invariant_of-self
invariant_of-self g c =
    let lent = lent_at c.self.invariant.1 c.at_mut-end.ensures.value c.at_mut-end.ensures.keyed in
    move.kept_lawful c.self.invariant.0 lent c.open.new.self
    (move.same_keeps c.in_err-step.ensures.unchanged)

pub returns-in_err-step : goal.returns-in_err-step
returns-in_err-step g c =
    let q = end_at (has_id c.args.dest) c.self.invariant.0 c.index_of.ensures.first c.in-Some.is
    c.at_mut-end.ensures.value in
    let there = taken g (goal.at.returns-in_err-step g c).After-has_remote-is_taken in
    let live = steps.answered_at q c.args.remote there c.at-end.ensures c.is_answered.ensures
    c.if-is_answered.true in
    let now = connected_to c.at_mut-end.result.now c.args.remote in
    let keeps = steps.answer_keeps c.at_mut-end.result.now c.args.remote (content c.args.segment.now) in
    let does = opened now (confirming wire now ∷ []) (heard_opening wire now (content c.args.segment.now)) in
    rw (← c.self.view_is) (rw (q.first, live) record {
      taken = move.taken_not q c.open.new.self c.args.out.now c.open.new.out c.from_residual.result _
          c.from_residual.ensures.0 c.in_err-step.ensures.unchanged c.in_err-step.ensures.nothing_sent;
      memory = λ h. absurd (steps.fails c.in_err-step.was
          (c.open.ensures.memory (move.room_asked c.args.out.now now does.after does.sent keeps h)));
    })

pub note-requires : goal.note-requires
note-requires g c =
    let q = end_at (has_id c.args.dest) c.self.invariant.0 c.index_of.ensures.first c.in-Some.is
    c.at_mut-end.ensures.value in
    let there = taken g (goal.at.note-requires g c).After-has_remote-is_taken in
    let live = steps.answered_at q c.args.remote there c.at-end.ensures c.is_answered.ensures
    c.if-is_answered.true in
    let lent = lent_at c.self.invariant.1 c.at_mut-end.ensures.value c.at_mut-end.ensures.keyed in
    answer.room_for_one lent (answer.alone lent c.args.remote _ live)

pub invariant_of-self-then-is_answered : goal.invariant_of-self-then-is_answered
invariant_of-self-then-is_answered g c =
    let q = end_at (has_id c.args.dest) c.self.invariant.0 c.index_of.ensures.first c.in-Some.is
    c.at_mut-end.ensures.value in
    let e = c.at_mut-end.result.now in
    let there = taken g (goal.at.invariant_of-self-then-is_answered g c).After-has_remote-is_taken in
    let live = steps.answered_at q c.args.remote there c.at-end.ensures c.is_answered.ensures
    c.if-is_answered.true in
    let lent = lent_at c.self.invariant.1 c.at_mut-end.ensures.value c.at_mut-end.ensures.keyed in
    let keeps = move.left_keeps (steps.answer_keeps e c.args.remote (content c.args.segment.now))
    c.in_ok-step.ensures.ok.state in
    let none = steps.answered_new e c.args.remote _ live in
    answer.answered_lawful lent c.self.invariant.0 c.open.new.self c.args.remote keeps (named c.note.new.remotes) _
    (answer.alone lent c.args.remote _ live) none
    (λ r. c.note.ensures.under r ∙ ap (λ id. cond (same_remote r c.args.remote) (Some id)
    (named c.self.inside.remotes r)) (sym (named_at q))) c.note.ensures.room

pub returns-then-is_answered-clause-taken : goal.returns-then-is_answered-clause-taken
returns-then-is_answered-clause-taken g c =
    let q = end_at (has_id c.args.dest) c.self.invariant.0 c.index_of.ensures.first c.in-Some.is
    c.at_mut-end.ensures.value in
    let there = taken g (goal.at.returns-then-is_answered-clause-taken g c).After-has_remote-is_taken in
    let live = steps.answered_at q c.args.remote there c.at-end.ensures c.is_answered.ensures
    c.if-is_answered.true in
    let now = connected_to c.at_mut-end.result.now c.args.remote in
    let keeps = steps.answer_keeps c.at_mut-end.result.now c.args.remote (content c.args.segment.now) in
    let does = opened now (confirming wire now ∷ []) (heard_opening wire now (content c.args.segment.now)) in
    rw (← c.self.view_is) (rw (q.first, live) (move.taken_outcome q c.open.new.self c.args.out.now
    c.open.new.out {E = ℕ} (Ok c.in_ok-step.step) does keeps.id keeps.asked c.in_ok-step.ensures.ok tt tt))

pub returns-then-not-confirms_again : goal.returns-then-not-confirms_again
returns-then-not-confirms_again g c =
    let q = end_at (has_id c.args.dest) c.self.invariant.0 c.index_of.ensures.first c.in-Some.is
    c.at-end-2.ensures in
    let there = taken g (goal.at.returns-then-not-confirms_again g c).After-has_remote-is_taken in
    let shut = steps.answered_at q c.args.remote there c.at-end.ensures c.is_answered.ensures
    c.if-is_answered.false in
    let known = test_at q (λ x. confirms_again x c.args.remote) c.at-end-2.ensures c.confirms_again.ensures
    c.if-not-confirms_again.true in
    rw (← c.self.view_is) (rw (q.first, shut, known) record { taken = move.ignored_done _ _; memory = λ h. refl })

pub returns-in_err-confirm-clause-memory : goal.returns-in_err-confirm-clause-memory
returns-in_err-confirm-clause-memory g c =
    let q = end_at (has_id c.args.dest) c.self.invariant.0 c.index_of.ensures.first c.in-Some.is
    c.at-end-2.ensures in
    let there = taken g (goal.at.returns-in_err-confirm-clause-memory g c).After-has_remote-is_taken in
    let shut = steps.answered_at q c.args.remote there c.at-end.ensures c.is_answered.ensures
    c.if-is_answered.false in
    let again = test_at q (λ x. confirms_again x c.args.remote) c.at-end-2.ensures c.confirms_again.ensures
    c.if-not-confirms_again.false in
    rw (← c.self.view_is) (rw (q.first, shut, again)
    (λ room. absurd (steps.fails c.in_err-confirm.was (c.confirm.ensures.room [] room).0)))

pub returns : goal.returns
returns g c =
    let q = end_at (has_id c.args.dest) c.self.invariant.0 c.index_of.ensures.first c.in-Some.is
    c.at-end-2.ensures in
    let there = taken g (goal.at.returns g c).After-has_remote-is_taken in
    let shut = steps.answered_at q c.args.remote there c.at-end.ensures c.is_answered.ensures
    c.if-is_answered.false in
    let again = test_at q (λ x. confirms_again x c.args.remote) c.at-end-2.ensures c.confirms_again.ensures
    c.if-not-confirms_again.false in
    rw (← c.self.view_is) (rw (q.first, shut, again) record {
      taken = record { answer_is = refl; state = refl; sent = c.in_ok-confirm.ensures.ok };
      memory = λ room. refl;
    })

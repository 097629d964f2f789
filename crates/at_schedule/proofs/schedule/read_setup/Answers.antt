use Rattle.std.proofs.Common.{ℕ, List, [], ◌∷◌, ◌++◌, Ok, ap, subst, ◌∙◌}
use Rattle.at_schedule.specs.Drafts.{BeginSchedule, IsRead}
use Rattle.at_schedule.specs.Schedules.{setup_words}
use Rattle.at_schedule.proofs.EndLemmas.{any_router, begin_read}
use Rattle.at_schedule.proofs.LineLemmas.{broken_of, left_more, line_refused, numbered_more}
use Rattle.at_schedule.proofs.LineLemmas.{setup_held, setup_lawful, setup_missed, told_of}
use Rattle.at_schedule.proofs.schedule.read_setup.Goals as goal

pub loop-turn-preserved : goal.loop-turn-preserved
loop-turn-preserved g c =
    let (read, so_far, number, left) = c.loop-turn.invariant in
    let line = c.next_line.new.room.items in
    let more = c.in_ok-more.was ∙ ap Ok c.if-not-more.false in (
      read ++ line ∷ [],
      subst (λ l. IsRead g.row.A.Denot (read ++ l ∷ []) c.take_line.new.self) c.deref.ensures.value
          (c.in-Ok.ensures.taken read so_far),
      c.saturating_add-number.ensures ∙ numbered_more read line c.loop-turn.number number,
      left_more (g.R.Read.remaining c.args.reader.now) _ _ read line left (c.next_line.ensures.line more)
          c.in_ok-more.ensures.rest,
    )

pub returns-in-Err-clause-fault : goal.returns-in-Err-clause-fault
returns-in-Err-clause-fault g c =
    let A = g.row.A.Denot in
    let (read, so_far, number, left) = c.loop-turn.invariant in
    let line = c.next_line.new.room.items in
    let more = c.in_ok-more.was ∙ ap Ok c.if-not-more.false in
    let later = left_more (g.R.Read.remaining c.args.reader.now) _ _ read line left (c.next_line.ensures.line more)
    c.in_ok-more.ensures.rest in
    let broken = broken_of ((lines : List (List ℕ)) → IsRead A lines c.loop-turn.draft
    → ¬ BeginSchedule A (lines ++ c.deref.result.now ∷ []))
    (¬ BeginSchedule A (read ++ line ∷ [])) c.take_line.result c.in-Err.fault c.in-Err.is c.take_line.ensures.only
    (λ never. subst (λ l. ¬ BeginSchedule A (read ++ l ∷ [])) c.deref.ensures.value (never read so_far)) in
    let begins = begin_read A read c.loop-turn.draft
    (c.each_draft_can_end.ensures 254 c.loop-turn.draft (setup_words read) any_router so_far.0) so_far in
    line_refused A (g.R.Read.remaining c.args.reader.now) _ read line c.in-Err.fault _
    c.fault_at.result number later begins broken
    (told_of c.in-Err.fault _ c.fault_at.result c.fault_at.ensures.unlawful c.fault_at.ensures.memory)

pub returns-then-not-more-clause-lawful : goal.returns-then-not-more-clause-lawful
returns-then-not-more-clause-lawful g c =
    let (read, so_far, number, left) = c.loop-turn.invariant in
    setup_lawful g.row.A.Denot read c.loop-turn.draft c.end_at.result so_far c.end_at.ensures.said

pub returns-then-not-more-clause-said : goal.returns-then-not-more-clause-said
returns-then-not-more-clause-said g c =
    let (read, so_far, number, left) = c.loop-turn.invariant in
    let none = c.in_ok-more.was ∙ ap Ok c.if-not-more.true in
    setup_held g.row.A.Denot (g.R.Read.remaining c.args.reader.now) _ read c.loop-turn.draft c.end_at.result left
    (c.next_line.ensures.end none) so_far c.end_at.ensures.said

pub returns-then-not-more-clause-fault : goal.returns-then-not-more-clause-fault
returns-then-not-more-clause-fault g c =
    let A = g.row.A.Denot in
    let (read, so_far, number, left) = c.loop-turn.invariant in
    let none = c.in_ok-more.was ∙ ap Ok c.if-not-more.true in
    let begins = begin_read A read c.loop-turn.draft
    (c.each_draft_can_end.ensures 254 c.loop-turn.draft (setup_words read) any_router so_far.0) so_far in
    setup_missed A (g.R.Read.remaining c.args.reader.now) _ read c.loop-turn.draft _ c.end_at.result number left
    (c.next_line.ensures.end none) so_far begins c.end_at.ensures.only

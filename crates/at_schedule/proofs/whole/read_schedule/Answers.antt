use Rattle.std.proofs.Common.{◌∷◌, ◌++◌, [], Some, ap, append_assoc, subst, sym, ◌∙◌}
use Rattle.std.specs.List.{All}
use Rattle.std.proofs.lemmas.List.{nil_from_length}
use Rattle.std.proofs.lemmas.Bool.{eqb-true}
use Rattle.at_schedule.specs.Drafts.{IsLineFault, IsSchedule}
use Rattle.at_schedule.specs.Says.{IsEventHere}
use Rattle.at_schedule.specs.Schedules.{lines_in, setup_words}
use Rattle.at_schedule.specs.Wholes.{events_of}
use Rattle.at_schedule.proofs.EndLemmas.{any_router, begin_read}
use Rattle.at_schedule.proofs.LineLemmas.{none_held, numbered_more}
use Rattle.at_schedule.proofs.WholeLemmas.{all_lines, all_read, not_taken}
use Rattle.at_schedule.proofs.whole.read_schedule.Goals as goal

pub loop-rest-preserved : goal.loop-rest-preserved
loop-rest-preserved g c =
    let (read, so_far, number, left) = c.loop-rest.invariant in
    let line = c.cut_line.result.0.now in (
      read ++ line ∷ [],
      c.in_default.ensures.taken read so_far,
      c.saturating_add-number.ensures ∙ numbered_more read line c.loop-rest.number number,
      left ∙ ap (λ l. read ++ l) c.cut_line.ensures.cut
          ∙ sym (append_assoc read (line ∷ []) (lines_in c.cut_line.result.1.now)),
    )

pub returns-in-Err-clause-fault : goal.returns-in-Err-clause-fault
returns-in-Err-clause-fault g c =
    let A = g.row.A.Denot in
    let (read, so_far, number, left) = c.loop-rest.invariant in
    let line = c.cut_line.result.0.now in
    let later = left ∙ ap (λ l. read ++ l) c.cut_line.ensures.cut
    ∙ sym (append_assoc read (line ∷ []) (lines_in c.cut_line.result.1.now)) in
    let begins = begin_read A read c.loop-rest.draft
    (c.each_draft_can_end.ensures 254 c.loop-rest.draft (setup_words read) any_router so_far.0.0) so_far.0 in
    not_taken A c.args.text.now c.cut_line.result.1.now read line c.loop-rest.draft c.loop-rest.number c.in-Err.fault
    number later so_far.0 begins c.in-Err.ensures.fault

pub returns-in-Ok-clause-said : goal.returns-in-Ok-clause-said
returns-in-Ok-clause-said g c =
    let (read, so_far, number, left) = c.loop-rest.invariant in
    let lines = lines_in c.args.text.now in
    let items = c.loop-rest.events.items in
    let whole = all_lines c.args.text.now c.loop-rest.rest.now read left
    (sym c.is_empty.ensures ∙ c.loop-rest-test.false) in
    subst (λ es. IsSchedule lines c.joined.result.setup (events_of es)) (sym c.joined.ensures.events)
    (subst (λ s. IsSchedule lines s (events_of items)) (sym c.joined.ensures.setup)
    (all_read g.row.A.Denot c.args.text.now read c.loop-rest.draft (events_of items) c.in-Ok.setup whole so_far
    c.in-Ok.ensures.said))

pub returns-in-Ok-clause-here : goal.returns-in-Ok-clause-here
returns-in-Ok-clause-here g c =
    let (read, so_far, number, left) = c.loop-rest.invariant in
    let items = c.loop-rest.events.items in
    subst (λ es. All (IsEventHere c.joined.result.setup.net) (events_of es)) (sym c.joined.ensures.events)
    (subst (λ net. All (IsEventHere net) (events_of items))
    (sym (ap (λ s. s.net) c.joined.ensures.setup ∙ c.in-Ok.ensures.net)) so_far.2)

pub returns-in-Err-end_at-clause-fault : goal.returns-in-Err-end_at-clause-fault
returns-in-Err-end_at-clause-fault g c =
    let A = g.row.A.Denot in
    let (read, so_far, number, left) = c.loop-rest.invariant in
    let end = nil_from_length c.loop-rest.rest.now
    (eqb-true _ 0 (sym c.is_empty.ensures ∙ c.loop-rest-test.false)) in
    let begins = begin_read A read c.loop-rest.draft
    (c.each_draft_can_end.ensures 254 c.loop-rest.draft (setup_words read) any_router so_far.0.0) so_far.0 in
    let only = c.in-Err-end_at.ensures.only in
    subst (IsLineFault A (Some c.args.text.now)) (sym only.1.1)
    (none_held A (Some c.args.text.now) (Some c.loop-rest.rest.now) read c.loop-rest.draft c.loop-rest.number
    only.1.0 number left end so_far.0 begins only.0)

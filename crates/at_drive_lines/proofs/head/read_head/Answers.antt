use Rattle.std.proofs.Common.{[], ◌++◌, ◌∷◌, List, Ok, ℕ, refl, sym, ap, ◌∙◌, subst}
use Rattle.at_drive_lines.specs.Drafts.{BeginDrive, HasRead, words_in}
use Rattle.at_drive_lines.specs.Lines.{HasNext}
use Rattle.at_drive_lines.proofs.BeginLemmas.{begins}
use Rattle.at_drive_lines.proofs.LineLemmas.{none_come}
use Rattle.at_drive_lines.proofs.TextLemmas.{at_fault, cut_short, read_next, said_of, told_as}
use Rattle.at_schedule.proofs.LineLemmas.{broken_of}
use Rattle.at_drive_lines.proofs.head.read_head.Goals as goal

pub loop-draft-init : goal.loop-draft-init
loop-draft-init g c = ([], none_come (g.L.Lines.left c.args.lines.now), c.new-draft.ensures, refl)

pub loop-draft-smaller : goal.loop-draft-smaller
loop-draft-smaller g c = c.advance.ensures.less (c.in_ok-advance.was ∙ ap Ok c.if-branch.true)

pub loop-draft-preserved : goal.loop-draft-preserved
loop-draft-preserved g c =
    let more = c.in_ok-advance.was ∙ ap Ok c.if-branch.true in
    let line = c.line.result.now in
    let now = g.L.Lines.left c.loop-draft.lines in
    let after = g.L.Lines.left c.advance.new.self in
    read_next g.row.A.Denot (g.L.Lines.left c.args.lines.now) now after line c.loop-draft.number
    c.saturating_add-number.result c.loop-draft.draft c.take_line.new.self c.loop-draft.invariant
    (subst (λ l. HasNext now l after) (sym c.line.ensures) (c.advance.ensures.next more))
    c.saturating_add-number.ensures c.in_default.ensures.taken

pub returns-in-Err-clause-fault : goal.returns-in-Err-clause-fault
returns-in-Err-clause-fault g c =
    let A = g.row.A.Denot in
    let so = c.loop-draft.invariant in
    let more = c.in_ok-advance.was ∙ ap Ok c.if-branch.true in
    let line = c.line.result.now in
    let now = g.L.Lines.left c.loop-draft.lines in
    let after = g.L.Lines.left c.advance.new.self in
    let old = c.loop-draft.draft in
    at_fault A (g.L.Lines.left c.args.lines.now) now after g.L.Lines.may_fail line c.loop-draft.number old
    c.in-Err.fault c.fault_at.result so
    (subst (λ l. HasNext now l after) (sym c.line.ensures) (c.advance.ensures.next more))
    (begins A c.each_draft_can_end.ensures c.lines_say_one_setup.ensures.same old so.0 so.2)
    (broken_of ((lines : List (List ℕ)) → HasRead A (words_in lines) old → ¬ BeginDrive A (lines ++ line ∷ []))
    (¬ BeginDrive A (so.0 ++ line ∷ [])) c.take_line.result c.in-Err.fault c.in-Err.is c.take_line.ensures.only
    (λ never. never so.0 so.2))
    (told_as c.in-Err.fault c.told.result c.loop-draft.number c.fault_at.result c.told.ensures.unlawful
    c.told.ensures.memory c.fault_at.ensures.unlawful c.fault_at.ensures.memory)

pub returns-in-Ok-clause-said : goal.returns-in-Ok-clause-said
returns-in-Ok-clause-said g c =
    let (read, come, has, numbered) = c.loop-draft.invariant in
    let none = c.in_ok-advance.was ∙ ap Ok c.if-branch.false in
    let head = c.in-Ok.head in
    said_of g.row.A.Denot (g.L.Lines.left c.args.lines.now) (g.L.Lines.left c.loop-draft.lines) head.setup head.port
    read
    come (c.advance.ensures.end none) (c.in-Ok.ensures.said (words_in read) has)

pub returns-in-Ok-clause-lawful : goal.returns-in-Ok-clause-lawful
returns-in-Ok-clause-lawful g c =
    let (read, come, has, numbered) = c.loop-draft.invariant in
    let (steps, t) = c.in-Ok.ensures.said (words_in read) has in
    (t.setup).1

pub returns-in-Err-finish-clause-fault : goal.returns-in-Err-finish-clause-fault
returns-in-Err-finish-clause-fault g c =
    let A = g.row.A.Denot in
    let so = c.loop-draft.invariant in
    let none = c.in_ok-advance.was ∙ ap Ok c.if-branch.false in
    cut_short A (g.L.Lines.left c.args.lines.now) (g.L.Lines.left c.loop-draft.lines) g.L.Lines.may_fail
    c.loop-draft.number c.loop-draft.draft c.in-Err-finish.rule so (c.advance.ensures.end none)
    (begins A c.each_draft_can_end.ensures c.lines_say_one_setup.ensures.same c.loop-draft.draft so.0 so.2)
    c.in-Err-finish.ensures.only

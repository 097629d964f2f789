use Rattle.std.proofs.Common.{◌<◌, ◌≤◌, ◌+◌, ◌-◌, ◌^◌, ◌∙◌, ℕ, Err, Ok, inl, inr, refl, sym, ap, subst, arith}
use Rattle.std.proofs.lemmas.Result.{err_from_is_err_and}
use Rattle.at_drive.specs.Steps.{numbers_of}
use Rattle.at_drive_lines.specs.Lines.{HasNext}
use Rattle.at_drive_lines.specs.StepLines.{is_step_line}
use Rattle.at_drive_text.specs.Driven.{Goes, IsUnread, first_progress}
use Rattle.at_drive_text.proofs.CourseMoves.{nothing_driven, sofar_done, sofar_ended, sofar_line}
use Rattle.at_drive_text.proofs.CountLemmas.{at_grows, bounded}
use Rattle.at_drive_text.proofs.CourseMoves.{sofar_unread}
use Rattle.at_drive_text.proofs.drive.drive_each.Goals as goal

pub loop-course-init : goal.loop-course-init
loop-course-init g c = record {
  so = nothing_driven g.C.Cable.sends g.C.Cable.receives g.W.Paper.page g.E.Paper.page c.args.course.now.setup.now
      (g.L.Lines.left c.args.lines.now) c.args.drive.now c.args.cable.now c.args.diagnostics.now c.args.printer.now
      c.args.course.now c.requires.begins;
  nodes = c.requires.nodes;
  counted = let none = c.requires.begins.1 in omega (arith, none);
  bound = inl refl;
}

pub returns-in_err-next_line-clause-goes : goal.returns-in_err-next_line-clause-goes
returns-in_err-next_line-clause-goes g c =
    let p = err_from_is_err_and c.from_residual.result c.from_residual.ensures.1 in
    let failed = c.in_err-next_line.ensures.failed in
    let setup = c.args.course.now.setup.now in
    let first = g.L.Lines.left c.args.lines.now in
    let start = first_progress c.args.drive.now c.args.cable.now c.args.diagnostics.now in
    let went = Goes g.C.Cable.sends g.C.Cable.receives g.W.Paper.page g.E.Paper.page setup first g.L.Lines.may_fail
    start
    c.args.printer.now c.loop-course.cable c.loop-course.printer c.loop-course.diagnostics in
    subst went (sym (p.1 ∙ ap Err p.2))
    (sofar_unread g.C.Cable.sends g.C.Cable.receives g.W.Paper.page g.E.Paper.page setup first start c.args.printer.now
    (g.L.Lines.left c.loop-course.lines) c.loop-course.course c.loop-course.drive c.loop-course.cable
    c.loop-course.printer c.loop-course.diagnostics c.loop-course.invariant.so g.L.Lines.may_fail
    c.in_err-next_line.field-0.0
    (subst (λ at. IsUnread (g.L.Lines.left c.loop-course.lines) at c.in_err-next_line.field-0.0) c.at.ensures failed.0)
    failed.1)

pub drive_line-requires-clause-nodes : goal.drive_line-requires-clause-nodes
drive_line-requires-clause-nodes g c =
    c.loop-course.invariant.nodes ∙ ap numbers_of (sym c.loop-course.invariant.so.going.0)

room_left : (at most less all : ℕ) → at + most ≤ all → less < most → all < 2 ^ 64 → at < 2 ^ 64 - 1
room_left at most less all sum fewer few = omega (arith, sum, fewer, few)

pub drive_line-requires-clause-room : goal.drive_line-requires-clause-room
drive_line-requires-clause-room g c =
    let more = c.in_ok-next_line.was ∙ ap Ok c.if-branch.true in
    room_left c.loop-course.course.at (g.L.Lines.most c.loop-course.lines) (g.L.Lines.most c.next_line.new.lines)
    (g.L.Lines.most c.args.lines.now) c.loop-course.invariant.counted (c.next_line.ensures.less more)
    (bounded g.L.Lines.most c.args.lines.now c.loop-course.lines c.loop-course.invariant.bound c.next_line.ensures.few)

pub loop-course-smaller : goal.loop-course-smaller
loop-course-smaller g c = c.next_line.ensures.less (c.in_ok-next_line.was ∙ ap Ok c.if-branch.true)

count_left : (at next most less all : ℕ) → at + most ≤ all → less < most → next ≤ at + 1 → next + less ≤ all
count_left at next most less all sum fewer grows = omega (arith, sum, fewer, grows)

pub loop-course-preserved : goal.loop-course-preserved
loop-course-preserved g c =
    let more = c.in_ok-next_line.was ∙ ap Ok c.if-branch.true in
    let line = c.line.result.now in
    let now = g.L.Lines.left c.loop-course.lines in
    let after = g.L.Lines.left c.next_line.new.lines in
    let told = c.in_ok-drive_line.ensures.told in
    record {
      so = sofar_line g.C.Cable.sends g.C.Cable.receives g.W.Paper.page g.E.Paper.page c.args.course.now.setup.now
          (g.L.Lines.left c.args.lines.now)
          (first_progress c.args.drive.now c.args.cable.now c.args.diagnostics.now) c.args.printer.now now after line
          c.loop-course.course c.loop-course.drive c.loop-course.cable c.loop-course.printer c.loop-course.diagnostics
          c.drive_line.new.self c.drive_line.new.drive c.drive_line.new.cable c.drive_line.new.printer
          c.drive_line.new.diagnostics c.loop-course.invariant.so
          (subst (λ l. HasNext now l after) (sym c.line.ensures) (c.next_line.ensures.next more)) told;
      nodes = c.drive_line.ensures.nodes ∙ c.loop-course.invariant.nodes;
      counted = count_left c.loop-course.course.at c.drive_line.new.self.at (g.L.Lines.most c.loop-course.lines)
          (g.L.Lines.most c.next_line.new.lines) (g.L.Lines.most c.args.lines.now) c.loop-course.invariant.counted
          (c.next_line.ensures.less more)
          (at_grows g.C.Cable.sends g.C.Cable.receives g.W.Paper.page g.E.Paper.page (is_step_line line) line
          c.loop-course.course c.loop-course.drive c.loop-course.cable c.loop-course.printer c.loop-course.diagnostics
          c.drive_line.new.self c.drive_line.new.drive c.drive_line.new.cable c.drive_line.new.printer
          c.drive_line.new.diagnostics told);
      bound = inr (bounded g.L.Lines.most c.args.lines.now c.loop-course.lines c.loop-course.invariant.bound
          c.next_line.ensures.few);
    }

pub returns-in_err-drive_line-clause-goes : goal.returns-in_err-drive_line-clause-goes
returns-in_err-drive_line-clause-goes g c =
    let p = err_from_is_err_and c.from_residual-in_err-drive_line.result
    c.from_residual-in_err-drive_line.ensures.1 in
    let more = c.in_ok-next_line.was ∙ ap Ok c.if-branch.true in
    let setup = c.args.course.now.setup.now in
    let first = g.L.Lines.left c.args.lines.now in
    let now = g.L.Lines.left c.loop-course.lines in
    let after = g.L.Lines.left c.next_line.new.lines in
    let start = first_progress c.args.drive.now c.args.cable.now c.args.diagnostics.now in
    let went = Goes g.C.Cable.sends g.C.Cable.receives g.W.Paper.page g.E.Paper.page setup first g.L.Lines.may_fail
    start
    c.args.printer.now c.drive_line.new.cable c.drive_line.new.printer c.drive_line.new.diagnostics in
    subst went (sym (p.1 ∙ ap Err p.2))
    (sofar_ended g.C.Cable.sends g.C.Cable.receives g.W.Paper.page g.E.Paper.page setup first start c.args.printer.now
    now after c.line.result.now c.loop-course.course c.loop-course.drive c.loop-course.cable c.loop-course.printer
    c.loop-course.diagnostics c.drive_line.new.self c.drive_line.new.drive c.drive_line.new.cable
    c.drive_line.new.printer c.drive_line.new.diagnostics c.loop-course.invariant.so
    (subst (λ l. HasNext now l after) (sym c.line.ensures) (c.next_line.ensures.next more)) g.L.Lines.may_fail
    c.in_err-drive_line.field-0.0 c.requires.read (c.each_line_can_be_read.ensures setup)
    c.in_err-drive_line.ensures.ended)

pub returns-clause-goes : goal.returns-clause-goes
returns-clause-goes g c =
    let none = c.in_ok-next_line.was ∙ ap Ok c.if-branch.false in
    sofar_done g.C.Cable.sends g.C.Cable.receives g.W.Paper.page g.E.Paper.page c.args.course.now.setup.now
    (g.L.Lines.left c.args.lines.now) (first_progress c.args.drive.now c.args.cable.now c.args.diagnostics.now)
    c.args.printer.now (g.L.Lines.left c.loop-course.lines) c.loop-course.course c.loop-course.drive
    c.loop-course.cable c.loop-course.printer c.loop-course.diagnostics c.loop-course.invariant.so
    g.L.Lines.may_fail (c.next_line.ensures.end none)

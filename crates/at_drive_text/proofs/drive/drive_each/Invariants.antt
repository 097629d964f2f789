use Rattle.std.proofs.Common.{◌≡◌, ◌⊎◌, ◌<◌, ◌≤◌, ◌+◌, ◌^◌, map}
use Rattle.at_drive.specs.Drives.{number_of as node_number}
use Rattle.at_drive.specs.Steps.{numbers_of}
use Rattle.at_drive_text.specs.Driven.{first_progress}
use Rattle.at_drive_text.proofs.CourseLemmas.{Sofar}
use Rattle.at_drive_text.proofs.drive.drive_each.Given as goal

-- the steps of the lines so far are driven and printed, the nodes keep their numbers, and no more steps than lines were
-- counted
abbrev pub invariant-loop-course : goal.invariant-loop-course
invariant-loop-course g l = record {
  so : Sofar g.C.Cable.sends g.C.Cable.receives g.W.Paper.page g.E.Paper.page l.fn.course.setup.now
      (g.L.Lines.left l.fn.lines) (first_progress l.fn.drive l.fn.cable l.fn.diagnostics) l.fn.printer
      (g.L.Lines.left l.lines) l.course l.drive l.cable l.printer l.diagnostics;
  nodes : map node_number l.drive.nodes ≡ numbers_of l.fn.course.setup.now;
  counted : l.course.at + g.L.Lines.most l.lines ≤ g.L.Lines.most l.fn.lines;
  bound : (l.lines ≡ l.fn.lines) ⊎ (g.L.Lines.most l.fn.lines < 2 ^ 64);
}

abbrev pub decreases-loop-course : goal.decreases-loop-course
decreases-loop-course g l = g.L.Lines.most l.lines

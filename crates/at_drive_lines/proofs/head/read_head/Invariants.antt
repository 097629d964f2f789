use Rattle.at_drive_lines.proofs.TextLemmas.{SoFar}
use Rattle.at_drive_lines.proofs.head.read_head.Given as goal

-- the draft was read of the lines so far
abbrev pub invariant-loop-draft : goal.invariant-loop-draft
invariant-loop-draft g l =
    SoFar g.row.A.Denot (g.L.Lines.left l.fn.lines) (g.L.Lines.left l.lines) l.number l.draft

abbrev pub decreases-loop-draft : goal.decreases-loop-draft
decreases-loop-draft g l = g.L.Lines.most l.lines

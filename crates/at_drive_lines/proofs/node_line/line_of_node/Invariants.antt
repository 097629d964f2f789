use Rattle.std.proofs.Common.{◌≡◌, ℕ, List}
use Rattle.at_schedule.specs.Drafts.{number_after}
use Rattle.at_drive_lines.specs.Lines.{HaveCome}
use Rattle.at_drive_lines.specs.NodeLines.{NoneNames}
use Rattle.at_drive_lines.proofs.node_line.line_of_node.Given as goal

-- none of the lines so far names the node, and the number is that of the next one
abbrev pub invariant-loop-lines : goal.invariant-loop-lines
invariant-loop-lines g l =
    (read : List (List ℕ)) × HaveCome (g.L.Lines.left l.fn.lines) read (g.L.Lines.left l.lines)
    × (l.number ≡ number_after read) × NoneNames read l.fn.node

abbrev pub decreases-loop-lines : goal.decreases-loop-lines
decreases-loop-lines g l = g.L.Lines.most l.lines

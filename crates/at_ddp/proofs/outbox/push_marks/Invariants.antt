use Rattle.std.proofs.Common.{◌≡◌, ◌≤◌, ◌++◌, take, map, vec_capacity}
use Rattle.at_ddp.specs.Marks.{behind}
use Rattle.at_ddp.proofs.outbox.push_marks.Given as goal

-- the marks so far are appended, and the room for the others stays
abbrev pub invariant-loop-mark : goal.invariant-loop-mark
invariant-loop-mark g l =
    (l.marks.items ≡ l.initial.marks.items ++ map (behind l.base) (take l.mark-index l.others))
    × (vec_capacity l.initial.marks ≤ vec_capacity l.marks)

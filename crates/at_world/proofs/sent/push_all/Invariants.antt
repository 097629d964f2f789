use Rattle.std.proofs.Common.{◌≡◌, ◌≤◌, ◌++◌, replicate, vec_capacity}
use Rattle.at_world.proofs.sent.push_all.Given as goal

-- so many stamps were pushed, and the room for the others stays
abbrev pub invariant-loop-i : goal.invariant-loop-i
invariant-loop-i g l =
    (l.stamps.items ≡ l.initial.stamps.items ++ replicate l._i l.event)
    × (vec_capacity l.initial.stamps ≤ vec_capacity l.stamps)

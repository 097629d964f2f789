use Rattle.std.proofs.Common.{◌≡◌, ◌++◌, ℕ, List, length}
use Rattle.at_schedule.specs.Drafts.{number_after}
use Rattle.at_schedule.specs.Schedules.{lines_in}
use Rattle.at_schedule.specs.Wholes.{AreRead, events_of}
use Rattle.at_schedule.proofs.whole.read_schedule.Given as goal

-- these lines were read, the number is that of the next one, and the others are left
abbrev pub invariant-loop-rest : goal.invariant-loop-rest
invariant-loop-rest g l =
    (read : List (List ℕ)) × AreRead g.row.A.Denot read l.draft (events_of l.events.items)
    × (l.number ≡ number_after read) × (lines_in l.fn.text ≡ read ++ lines_in l.rest)

abbrev pub decreases-loop-rest : goal.decreases-loop-rest
decreases-loop-rest g l = length l.rest

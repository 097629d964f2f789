use Rattle.std.proofs.Common.{◌≡◌, ◌≤◌, false, length, take}
use Rattle.std.specs.Prelude.{vec_capacity}
use Rattle.at_world.specs.Plays.{opening_world, Follows}
use Rattle.at_world.specs.Safety.{Safely}
use Rattle.at_world.proofs.player.play_all.Given as goal

-- the events so far gave the reports so far, each of them was safe, at most 16 nodes stand, the world has not failed,
-- and there is room for the reports to come
abbrev pub invariant-loop-at : goal.invariant-loop-at
invariant-loop-at g l =
    Follows (opening_world l.fn.setup) (take l.at l.events) l.reports.items l.world
    × Safely (opening_world l.fn.setup) (take l.at l.events) l.reports.items l.world × (length l.world.nodes ≤ 16)
    × (l.world.failed ≡ false) × (length l.reports.items ≡ l.at) × (length l.events ≤ vec_capacity l.reports)

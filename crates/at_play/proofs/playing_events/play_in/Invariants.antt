use Rattle.std.proofs.Common.{◌≡◌, take}
use Rattle.std.specs.List.{All}
use Rattle.at_schedule.specs.Says.{IsEventHere}
use Rattle.at_schedule.specs.Wholes.{events_of}
use Rattle.at_setup.specs.declared.setup.Setup.{Setup}
use Rattle.at_world.specs.Plays.{opening_world}
use Rattle.at_play.proofs.ToldLemmas.{Sofar}
use Rattle.at_play.proofs.playing_events.play_in.Given as goal

-- the events so far were played, printed and told
abbrev pub invariant-loop-next : goal.invariant-loop-next
invariant-loop-next g l =
    (setup : Setup g.row.A.Denot) → l.fn.world ≡ opening_world setup
    → All (IsEventHere setup.net) (events_of l.events)
    → (so_far : Sofar g.row.A.Denot g.W.Paper.page g.E.Paper.page setup l.world l.fn.printer l.printer l.fn.diagnostics
    l.diagnostics) × ((so_far.0).events ≡ events_of (take l.next-index l.events))

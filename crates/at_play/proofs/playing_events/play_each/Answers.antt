use Rattle.std.proofs.Common.{None}
use Rattle.at_schedule.specs.Wholes.{events_of}
use Rattle.at_play.proofs.EventLists.{ends_unopened}
use Rattle.at_play.proofs.playing_events.play_each.Goals as goal

pub returns-in_default-clause-told : goal.returns-in_default-clause-told
returns-in_default-clause-told g c =
    ends_unopened g.row.A.Denot g.W.Paper.page g.E.Paper.page c.args.setup.now (events_of c.args.events.now)
    c.args.printer.now c.args.diagnostics.now c.no_memory.result 0 None c.no_memory.ensures.stop

pub returns-clause-told : goal.returns-clause-told
returns-clause-told g c = c.play_in-played.ensures.told c.args.setup.now c.in-Ok.ensures c.requires

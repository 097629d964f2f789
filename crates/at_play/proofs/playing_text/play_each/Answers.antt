use Rattle.std.proofs.Common.{None, Some, false, refl}
use Rattle.at_play.proofs.ToldLemmas.{stops_first}
use Rattle.at_play.proofs.playing_text.play_each.Goals as goal

pub returns-in_default-clause-told : goal.returns-in_default-clause-told
returns-in_default-clause-told g c =
    stops_first g.row.A.Denot g.W.Paper.page g.E.Paper.page c.args.setup.now (Some c.args.text.now) false
    c.args.printer.now c.args.diagnostics.now c.no_memory.result 0 None c.no_memory.ensures.stop

pub play_in-played-requires : goal.play_in-played-requires
play_in-played-requires g c = (c.args.setup.now, c.requires)

pub returns-clause-told : goal.returns-clause-told
returns-clause-told g c = c.play_in-played.ensures.told c.args.setup.now c.in-Ok.ensures refl

use Rattle.std.proofs.Common.{None, refl, true}
use Rattle.at_play.proofs.ToldLemmas.{stops_first}
use Rattle.at_play.proofs.playing.play_all.Goals as goal

pub returns-in_default-clause-told : goal.returns-in_default-clause-told
returns-in_default-clause-told g c =
    stops_first g.row.A.Denot g.W.Paper.page g.E.Paper.page c.args.setup.now (g.R.Read.remaining c.args.reader.now) true
    c.args.printer.now c.args.diagnostics.now c.no_memory.result 0 None c.no_memory.ensures.stop

pub returns-clause-told : goal.returns-clause-told
returns-clause-told g c = c.play_in-played.ensures.told c.args.setup.now c.in-Ok.ensures refl

use Rattle.std.proofs.Common.{◌≡◌, length, Some}
use Rattle.at_setup.specs.declared.setup.Setup.{Setup}
use Rattle.at_world.specs.Plays.{opening_world}
use Rattle.at_play.proofs.LineLemmas.{HasRead}
use Rattle.at_record.proofs.PlayedLemmas.{Unseen}
use Rattle.at_record.proofs.playing.play_in.Given as goal

-- the events so far were played and told, and the lines that were read say them; the others are left
abbrev pub invariant-loop-rest : goal.invariant-loop-rest
invariant-loop-rest g l =
    (setup : Setup g.row.A.Denot) → l.fn.world ≡ opening_world setup → l.fn.net ≡ setup.net
    → (so_far : Unseen g.row.A.Denot g.E.Paper.page setup l.world l.fn.diagnostics l.diagnostics)
    × HasRead g.row.A.Denot (Some l.fn.text) (Some l.rest) (so_far.0).events l.draft

abbrev pub decreases-loop-rest : goal.decreases-loop-rest
decreases-loop-rest g l = length l.rest

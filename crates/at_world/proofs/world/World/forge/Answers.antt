use Rattle.at_world.proofs.EventLemmas.{forged, not_forged}
use Rattle.at_world.proofs.world.World.forge.Goals as goal

pub returns-clause-played : goal.returns-clause-played
returns-clause-played g c =
    forged g.row.A.Denot c.args.self.now c.play.new.self c.args.node c.args.bytes.now
    (record { ref_ptr = (0, 0); now = c.of.result }) c.play.result c.of.ensures c.requires.runs
    c.play.ensures.played c.play.ensures.free

pub returns-clause-not_played : goal.returns-clause-not_played
returns-clause-not_played g c =
    not_forged g.row.A.Denot c.args.self.now c.play.new.self c.args.node c.args.bytes.now
    (record { ref_ptr = (0, 0); now = c.of.result }) c.play.result c.of.ensures c.requires.runs
    c.play.ensures.not_played

use Rattle.std.proofs.Common.{◌≡◌, ap, refl, rules, sym, true, ◌∙◌}
use Rattle.std.proofs.lemmas.Bool.{false≢true}
use Rattle.at_world.specs.Worlds.{WorldState}
use Rattle.at_world.proofs.EventLemmas.{brought, called_by, came, fired, not_brought, not_called, not_came, not_fired}
use Rattle.at_world.proofs.world.World.step_once.Goals as goal

pub returns-in-Timer-clause-played : goal.returns-in-Timer-clause-played
returns-in-Timer-clause-played g c =
    fired g.row.A.Denot c.args.self.now c.play-in-Timer.new.self c.args.event.now c.in-Timer.node c.in-Timer.timer
    c.play-in-Timer.result c.in-Timer.is (sym c.is_over.ensures ∙ c.if-is_over.false)
    c.play-in-Timer.ensures.played

pub returns-in-Timer-clause-not_played : goal.returns-in-Timer-clause-not_played
returns-in-Timer-clause-not_played g c =
    not_fired g.row.A.Denot c.args.self.now c.play-in-Timer.new.self c.args.event.now c.in-Timer.node c.in-Timer.timer
    c.play-in-Timer.result c.in-Timer.is (sym c.is_over.ensures ∙ c.if-is_over.false)
    c.play-in-Timer.ensures.not_played

pub returns-in-Call-clause-played : goal.returns-in-Call-clause-played
returns-in-Call-clause-played g c =
    called_by g.row.A.Denot c.args.self.now c.play.new.self c.args.event.now c.in-Call.node c.in-Call.call
    (record { ref_ptr = (0, 0); now = c.in-Call.call }) c.play.result c.in-Call.is refl
    (sym c.is_over.ensures ∙ c.if-is_over.false)
    c.play.ensures.played c.play.ensures.free c.ranges-in-Call.ensures

pub returns-in-Call-clause-not_played : goal.returns-in-Call-clause-not_played
returns-in-Call-clause-not_played g c =
    not_called g.row.A.Denot c.args.self.now c.play.new.self c.args.event.now c.in-Call.node c.in-Call.call
    (record { ref_ptr = (0, 0); now = c.in-Call.call }) c.play.result c.in-Call.is refl
    (sym c.is_over.ensures ∙ c.if-is_over.false)
    c.play.ensures.not_played

pub returns-in-Deliver-clause-played : goal.returns-in-Deliver-clause-played
returns-in-Deliver-clause-played g c =
    came g.row.A.Denot c.args.self.now c.deliver.new.self c.args.event.now c.in-Deliver.datagram c.in-Deliver.node
    c.deliver.result c.in-Deliver.is c.deliver.ensures.played

pub returns-in-Deliver-clause-not_played : goal.returns-in-Deliver-clause-not_played
returns-in-Deliver-clause-not_played g c =
    not_came g.row.A.Denot c.args.self.now c.deliver.new.self c.args.event.now c.in-Deliver.datagram c.in-Deliver.node
    c.deliver.result c.in-Deliver.is c.deliver.ensures.not_played

pub returns-in-Forge-clause-played : goal.returns-in-Forge-clause-played
returns-in-Forge-clause-played g c =
    brought g.row.A.Denot c.args.self.now c.forge.new.self c.args.event.now c.in-Forge.node c.in-Forge.bytes
    c.as_slice.result.now c.forge.result c.in-Forge.is c.as_slice.ensures c.forge.ensures.played

pub returns-in-Forge-clause-not_played : goal.returns-in-Forge-clause-not_played
returns-in-Forge-clause-not_played g c =
    not_brought g.row.A.Denot c.args.self.now c.forge.new.self c.args.event.now c.in-Forge.node c.in-Forge.bytes
    c.as_slice.result.now c.forge.result c.in-Forge.is c.as_slice.ensures c.forge.ensures.not_played

pub returns-then-self-clause-not_played : goal.returns-then-self-clause-not_played
returns-then-self-clause-not_played g c =
    let failed : c.args.self.now.failed ≡ true = sym (ap (λ (w : WorldState). w.failed) c.self.view_is)
    ∙ c.if-self.true in
    (failed, refl, λ whole. absurd (false≢true (sym whole ∙ failed)))

-- (so that a search which fails, for a wrong body, is not made a second time)
pub returns-then-is_over-clause-not_played : goal.returns-then-is_over-clause-not_played
returns-then-is_over-clause-not_played g c = search rules

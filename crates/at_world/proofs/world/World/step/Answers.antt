use Rattle.at_world.proofs.SafetyLemmas.{SafetyLaws, all_safe}
use Rattle.at_world.proofs.world.World.step.Goals as goal

pub returns-clause-safe : goal.returns-clause-safe
returns-clause-safe g c =
    let law = c.every_event_is_safe.ensures in
    let laws : SafetyLaws g.row.A.Denot = record { call = law.call; timer = law.timer; datagram = law.datagram } in
    all_safe g.row.A.Denot laws c.args.self.now c.args.event.now c.step_once.new.self c.step_once.result
    c.step_once.ensures.played c.limits.ensures c.step_once.ensures.within

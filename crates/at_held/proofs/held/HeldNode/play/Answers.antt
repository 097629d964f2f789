use Rattle.at_held.proofs.SafetyLemmas.{SafetyLaws, played_safely}
use Rattle.at_held.proofs.held.HeldNode.play.Goals as goal

pub returns-clause-safe : goal.returns-clause-safe
returns-clause-safe c =
    let law = c.every_event_is_safe.ensures in
    let laws : SafetyLaws = record { call = law.call; timer = law.timer; datagram = law.datagram } in
    played_safely laws c.args.self.now c.play_line-played.new.self c.limits.ensures c.args.line.now
    c.play_line-played.result c.play_line-played.ensures

use Rattle.at_held.proofs.SafetyLemmas.{SafetyLaws, received_safely}
use Rattle.at_held.proofs.held.HeldNode.receive.Goals as goal

pub returns-clause-received : goal.returns-clause-received
returns-clause-received c = rw c.of.ensures at c.take-received.ensures

pub returns-clause-safe : goal.returns-clause-safe
returns-clause-safe c =
    let law = c.every_event_is_safe.ensures in
    let laws : SafetyLaws = record { call = law.call; timer = law.timer; datagram = law.datagram } in
    let received = rw c.of.ensures at c.take-received.ensures in
    received_safely laws c.args.self.now c.take-received.new.self c.limits.ensures c.args.bytes.now
    c.take-received.result received

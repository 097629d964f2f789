use Rattle.std.proofs.Common.{◌∙◌, sym}
use Rattle.at_c.proofs.StatusLemmas.{received_done}
use Rattle.at_c.proofs.at_node_receive.Goals as goal

-- The node that was in the handle receives, and is put back.
pub returns-clause-receives : goal.returns-clause-receives
returns-clause-receives c =
    rw (c.in-Some.ensures.node, ← c.deref_mut.ensures.value) (
      c.receive-received.new.self,
      c.put.ensures,
      (c.receive-received.result, c.received_status.ensures, c.receive-received.ensures.received),
    )

pub returns-clause-safe : goal.returns-clause-safe
returns-clause-safe c =
    rw (c.in-Some.ensures.node, ← c.deref_mut.ensures.value, c.put.ensures) (λ done. received_done
    c.receive-received.result (sym c.received_status.ensures ∙ done) c.receive-received.ensures.safe)

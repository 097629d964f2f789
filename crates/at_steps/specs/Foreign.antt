-- What an event of another protocol is to a protocol.
use Rattle.std.specs.Prelude.{◌≡◌, ◌==◌, ℕ, Bool, false}
use Rattle.std.specs.List.{AllByRecursion}
use Rattle.at_event.specs.Kinds.{Speaker, reporter_of}
use Rattle.at_event.specs.Outcomes.{Outcome}
use Rattle.at_node.specs.Nodes.{NodeState}
use Rattle.at_steps.specs.Acts.{Act, IsSaid}

-- The step leaves the protocol's part of the node as it was, and sends nothing of the protocol's type. Its report is
-- one that there is, but not the protocol's.
pub record IsAnothers {A X : Type 0} (is_its : Speaker → Bool) (kind : ℕ) (part : NodeState → X) (n : NodeState)
    (act : Act A) (o : Outcome A NodeState) : Type 0 where
  pub same : part o.state ≡ part n
  pub sends : AllByRecursion (λ p. (p.kind == kind) ≡ false) o.out
  pub reports : is_its (reporter_of o.report) ≡ false
  pub said : IsSaid act o.report

-- A node that takes an input stays where it stands.
use Rattle.std.proofs.Common.{◌≡◌, Bool, true, false, List, ℕ, ap, ◌∙◌}
use Rattle.std.specs.Prelude.{MatchBool}
use Rattle.at_ddp.specs.Outbox.{Posted}
use Rattle.at_event.specs.Outcomes.{Comes, Exactly, IsStep, Outcome, wants_memory}
use Rattle.at_event.specs.Kinds.{takes_memory}
use Rattle.at_event.specs.declared.Report.{Report}
use Rattle.at_node.specs.Hearing.{Hears}
use Rattle.at_event.specs.declared.Call.{Call}
use Rattle.at_event.specs.declared.Timer.{Timer}
use Rattle.at_event.specs.declared.service.Reply.{Reply}
use Rattle.at_node.specs.Nodes.{KeepsSeat, NodeState, called, timed}
use Rattle.at_node.specs.declared.numbers.Input.{Input}
use Rattle.at_node.specs.declared.numbers.Input.TheVariants as input
use Rattle.at_nodes.specs.Taking.{Takes}

exactly_stays : (A : Type 0) (o : Outcome A NodeState) (old new : NodeState) (before after : List Posted) (r : Report A)
    → KeepsSeat old o → Exactly o before r new after → new.seat ≡ old.seat
exactly_stays A o old new before after r keeps h = ap (λ (n : NodeState). n.seat) h.1 ∙ keeps

step_stays : (A : Type 0) (o : Outcome A NodeState) (old new : NodeState) (before after : List Posted) (r : Report A)
    → KeepsSeat old o → IsStep o old before r new after → new.seat ≡ old.seat
step_stays A o old new before after r keeps = go (wants_memory r)
  where
    go : (b : Bool) → MatchBool b ((new ≡ old) × (after ≡ before) × (takes_memory o.report ≡ true))
        (Exactly o before r new after) → new.seat ≡ old.seat
    go true h = ap (λ (n : NodeState). n.seat) h.0
    go false h = exactly_stays A o old new before after r keeps h

coming_stays : (A : Type 0) (May : Outcome A NodeState → Type 0) (old new : NodeState) (before after : List Posted)
    (r : Report A) → ((o : Outcome A NodeState) → May o → KeepsSeat old o) → Comes May old before r new after
    → new.seat ≡ old.seat
coming_stays A May old new before after r keeps = go (wants_memory r)
  where
    go : (b : Bool) → MatchBool b
        ((new ≡ old) × (after ≡ before) × ((o : Outcome A NodeState) × May o × (takes_memory o.report ≡ true)))
        ((o : Outcome A NodeState) × May o × Exactly o before r new after) → new.seat ≡ old.seat
    go true h = ap (λ (n : NodeState). n.seat) h.0
    go false h = exactly_stays A h.0 old new before after r (keeps h.0 h.1) h.2

-- no call, no timer and no bytes move a node
module _ (A : Type 0) (called_stays : (n : NodeState) (call : Call A) → KeepsSeat n (called n call))
    (timed_stays : (n : NodeState) (time : Timer) → KeepsSeat {A = A} n (timed n time))
    (heard_stays : (said : Reply A) (n : NodeState) (bytes : List ℕ) (o : Outcome A NodeState) → Hears said n bytes o
    → KeepsSeat n o) where
  pub taking_stays : (i : Input A) (old new : NodeState) (before after : List Posted) (r : Report A)
      → Takes i old before r new after → new.seat ≡ old.seat
  taking_stays (input.Call call) old new before after r h =
      step_stays A (called old call.now) old new before after r (called_stays old call.now) h
  taking_stays (input.Timer timer) old new before after r h =
      step_stays A (timed old timer) old new before after r (timed_stays old timer) h
  taking_stays (input.Received bytes) old new before after r h =
      coming_stays A (Hears h.0 old bytes.now) old new before after r (heard_stays h.0 old bytes.now) h.1

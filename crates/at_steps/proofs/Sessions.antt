-- Each event of a node is a step of its user's session.
use Rattle.std.proofs.Common.{ℕ, List, ap}
use Rattle.at_event.specs.Kinds.{Speaker, speaker_of_call, speaker_of_timer}
use Rattle.at_event.specs.Outcomes.{Outcome}
use Rattle.at_event.specs.declared.Call.{Call}
use Rattle.at_event.specs.declared.Timer.{Timer}
use Rattle.at_event.specs.declared.service.Reply.{Reply}
use Rattle.at_node.specs.Hearing.{Hears}
use Rattle.at_node.specs.Nodes.{NodeState, called, timed}
use Rattle.at_steps.specs.Acts.{Act, Calls, Fires, Gets}
use Rattle.at_steps.specs.SessionSteps.{IsStep}
use Rattle.at_steps.proofs.Protocols.{Comes, bytes_come, call_comes, timer_comes}

module _ (A : Type 0) (n : NodeState) where
  abbrev Steps : Act A → Outcome A NodeState → Type 0
  Steps act o = IsStep n.session act o.report o.state.session

  comes_steps : (act : Act A) (o : Outcome A NodeState) (k : Speaker) → Comes A n act o k → Steps act o
  comes_steps act o k h = let by = h.by in
      record { becomes = ap (λ (x : NodeState). x.session) by.state; picks = h.picks }

  pub call_steps : (call : Call A) → Steps (Calls call) (called n call)
  call_steps call = comes_steps (Calls call) (called n call) (speaker_of_call call) (call_comes A n call)

  pub timer_steps : (time : Timer) → Steps (Fires time) (timed n time)
  timer_steps time = comes_steps (Fires time) (timed n time) (speaker_of_timer time) (timer_comes A n time)

  pub datagram_steps : (which : ℕ) (said : Reply A) (o : Outcome A NodeState) (bytes : List ℕ) → Hears said n bytes o
      → Steps (Gets which) o
  datagram_steps which said o bytes h =
      let c = (bytes_come A n which said o bytes h).1 in comes_steps (Gets which) o c.whose c.comes

-- What a node does with an input, whatever carried it.
use Rattle.std.specs.Prelude.{◌≡◌, ℕ, true, List}
use Rattle.at_ddp.specs.Outbox.{Posted}
use Rattle.at_event.specs.Outcomes.{Comes, IsStep}
use Rattle.at_event.specs.Services.{is_asked}
use Rattle.at_event.specs.declared.Report.{Report}
use Rattle.at_event.specs.declared.service.Reply.{Reply}
use Rattle.at_event.specs.declared.service.Reply.TheVariants as reply
use Rattle.at_node.specs.Hearing.{Hears}
use Rattle.at_node.specs.Nodes.{NodeState, called, timed}
use Rattle.at_node.specs.declared.numbers.Input.{Input}
use Rattle.at_node.specs.declared.numbers.Input.TheVariants as input

-- a node receives bytes, and its service leaves every answer for later
abbrev pub Receives : {A : Type 0} → List ℕ → NodeState → List Posted → Report A → NodeState → List Posted → Type 0
Receives {A} bytes n before r after out =
    (said : Reply A) × Comes (Hears said n bytes) n before r after out × (is_asked r ≡ true → said ≡ reply.Later)

-- a node takes an input
abbrev pub Takes : {A : Type 0} → Input A → NodeState → List Posted → Report A → NodeState → List Posted → Type 0
Takes (input.Call call) n before r after out = IsStep (called n call.now) n before r after out
Takes (input.Timer timer) n before r after out = IsStep (timed n timer) n before r after out
Takes (input.Received bytes) n before r after out = Receives bytes.now n before r after out

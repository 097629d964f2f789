-- What the lines of a drive say. A line is the list of its words.
use Rattle.std.specs.Prelude.{◌≡◌, ◌+◌, ◌-◌, ◌||◌, not, nat_le, nat_lt, Bool, true, false, ℕ, List, [], ◌∷◌, ◌++◌}
use Rattle.std.specs.Prelude.{codes, length}
use Rattle.std.specs.List.{AllZip, list_all}
use Rattle.std.specs.Str.{bytes_eq}
use Rattle.at_call_words.specs.Calls.{IsHere}
use Rattle.at_call_words.specs.Timers.{IsTimerHere}
use Rattle.at_words.specs.Numbers.{IsNode, IsTwoBytes}
use Rattle.at_setup.specs.declared.setup.NodeSetup.{NodeSetup}
use Rattle.at_setup.specs.declared.setup.Setup.{Setup}
use Rattle.at_setup_lines.specs.NodeLists.{lacks_router}
use Rattle.at_setup_lines.specs.SetupLines.{IsSetup}
use Rattle.at_schedule.specs.Says.{CallSays, TimerSays}
use Rattle.at_drive.specs.Steps.{has_all}
use Rattle.at_drive.specs.declared.step.Step.{Step}
use Rattle.at_drive.specs.declared.step.Step.TheVariants as step

-- the first word of a step
abbrev pub is_step_word : List ℕ → Bool
is_step_word word =
    bytes_eq word (codes "call") || (bytes_eq word (codes "timer") || bytes_eq word (codes "poll"))

-- does a line begin with one?
abbrev pub begins_step : List (List ℕ) → Bool
begins_step [] = false
begins_step (word ∷ words) = is_step_word word

-- the words after `poll` say a node
abbrev pub PollSays : List (List ℕ) → ℕ → Type 0
PollSays ws node = (n : List ℕ) × (ws ≡ n ∷ []) × IsNode n node

-- the first word of a step, and what the words after it say
abbrev pub StepSays : {A : Type 0} → List ℕ → List (List ℕ) → Step A → Type 0
StepSays word ws (step.Call node c) = (word ≡ codes "call") × CallSays ws node c
StepSays word ws (step.Timer node t) = (word ≡ codes "timer") × TimerSays ws node t
StepSays word ws (step.Poll node) = (word ≡ codes "poll") × PollSays ws node

-- a requester that the step names is on this network
abbrev pub IsStepHere : {A : Type 0} → ℕ → Step A → Type 0
IsStepHere net (step.Call node c) = IsHere net c
IsStepHere net (step.Timer node t) = IsTimerHere net t
IsStepHere net (step.Poll node) = Unit {0}

-- the line says this step
abbrev pub AreStep : {A : Type 0} → List (List ℕ) → Step A → Type 0
AreStep [] s = ⊥
AreStep (word ∷ ws) s = StepSays word ws s

-- `port` and a number from 0 to 65,535
abbrev pub SaysPort : List (List ℕ) → ℕ → Type 0
SaysPort ws port = (word : List ℕ) × (ws ≡ codes "port" ∷ word ∷ []) × IsTwoBytes word port

-- has each node a port? It is as far above this one as the node's number says, and at most 65,535.
abbrev pub have_ports : ℕ → List NodeSetup → Bool
have_ports port ns = list_all (λ n. nat_le (port + n.node) 65535) ns

-- is a port left for the router, if it has to follow?
abbrev pub leave_port : ℕ → List NodeSetup → Bool
leave_port port ns = not (lacks_router ns) || nat_lt (length ns) (65535 - port)

-- The first line is the network's, and the second one says the port. Those of the nodes and the zone tables follow, and
-- are a setup with the first. The others say these steps. Each node has a port, and the node of each step stands.
pub record AreDrive {A : Type 0} (lines : List (List (List ℕ))) (s : Setup A) (first : ℕ) (steps : List (Step A))
    : Type 0 where
  pub net : List (List ℕ)
  pub port : List (List ℕ)
  pub head : List (List (List ℕ))
  pub last : List (List (List ℕ))
  pub parts : lines ≡ net ∷ port ∷ (head ++ last)
  pub setup : IsSetup (net ∷ head) s
  pub placed : SaysPort port first
  pub ports : have_ports first s.nodes ≡ true
  pub said : AllZip AreStep last steps
  pub stand : has_all s steps ≡ true

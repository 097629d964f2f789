-- What was read of the lines of a setup.
use Rattle.std.specs.Prelude.{◌≡◌, ◌==◌, if◌then◌else◌, ℕ, Bool, true, false, List, [], ◌∷◌, ◌++◌, codes}
use Rattle.at_faults.specs.declared.rule.Rule.{Rule}
use Rattle.at_faults.specs.declared.rule.Rule.TheVariants.{NetFirst, NoNet, NoRouter, RouterMissing}
use Rattle.at_setup_lines.specs.NodeLists.{BeginNodes}
use Rattle.at_setup_lines.specs.SetupLines.{BeginSetup, EndInTable, IsSetup, SayHead, SayZones}
use Rattle.at_setup_lines.specs.declared.draft.Stage.{Stage}
use Rattle.at_setup_lines.specs.declared.draft.Stage.TheVariants.{Event, Local, Net, Node, Zones}
use Rattle.at_setup.specs.Setups.{is_lawful}
use Rattle.at_setup.specs.declared.setup.NodeSetup.{NodeSetup}
use Rattle.at_setup.specs.declared.setup.Setup.{Setup}

-- which line comes next, and the parts of the setup so far
pub record Draft : Type 0 where
  pub stage : Stage
  pub net : ℕ
  pub nodes : List NodeSetup
  pub zones : List (List ℕ)
  pub local : List (List ℕ)

-- the setup so far, wherever it lies in memory
abbrev pub setup_of : Draft → Setup (Unit {0})
setup_of d = record { net = d.net; nodes = d.nodes; zones = d.zones; local = d.local }

abbrev pub is_event : Stage → Bool
is_event Net = false
is_event Node = false
is_event Zones = false
is_event Local = false
is_event Event = true

-- an event came, so the lines of the setup are over
abbrev pub has_events : Draft → Bool
has_events d = is_event d.stage

-- at each stage, what the lines so far say
abbrev pub IsDraftAt : Stage → List (List (List ℕ)) → Draft → Type 0
IsDraftAt Net lines d = (lines ≡ []) × (d.net ≡ 0) × (d.nodes ≡ []) × (d.zones ≡ []) × (d.local ≡ [])
IsDraftAt Node lines d = SayHead lines d.net d.nodes × (d.zones ≡ []) × (d.local ≡ []) × BeginNodes d.nodes
IsDraftAt Zones lines d =
    EndInTable (codes "zones") (λ head. SayHead head d.net d.nodes) d.nodes lines d.zones × (d.local ≡ [])
    × (is_lawful (setup_of d) ≡ true)
IsDraftAt Local lines d =
    EndInTable (codes "local") (λ front. SayZones front d.net d.nodes d.zones) d.nodes lines d.local
    × (is_lawful (setup_of d) ≡ true)
IsDraftAt Event lines d = IsSetup lines (setup_of d)

-- this was read of these lines, and more lines may follow until an event comes
abbrev pub IsDraft : List (List (List ℕ)) → Draft → Type 0
IsDraft lines d = IsDraftAt d.stage lines d

-- the rule that an event breaks, at each stage
abbrev pub event_rule : Stage → Rule
event_rule Net = NetFirst
event_rule Node = RouterMissing
event_rule Zones = RouterMissing
event_rule Local = RouterMissing
event_rule Event = RouterMissing

-- the rule that the end of the lines breaks: there is no network, or no router
abbrev pub end_rule : ℕ → Rule
end_rule net = if net == 0 then NoNet else NoRouter

-- ---- one line more

-- the line was read, after any lines that the draft was read of
abbrev pub Takes : Draft → List (List ℕ) → Draft → Type 0
Takes old line new = (lines : List (List (List ℕ))) → IsDraft lines old → IsDraft (lines ++ line ∷ []) new

-- no setup begins with the lines of the draft and this line
abbrev pub Refuses : Type 0 → Draft → List (List ℕ) → Type 0
Refuses A old line =
    (lines : List (List (List ℕ))) → IsDraft lines old → has_events old ≡ false → ¬ BeginSetup A (lines ++ line ∷ [])

-- no setup has just the lines of the draft
abbrev pub IsNoSetup : Type 0 → Draft → Type 0
IsNoSetup A d = (lines : List (List (List ℕ))) → IsDraft lines d → (s : Setup A) → ¬ IsSetup lines s

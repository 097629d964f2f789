-- A node in the hands of a program: what is kept of it, and what an event does to it.
use Rattle.std.specs.Prelude.{◌≡◌, ◌⊎◌, ℕ, false, true, List, [], Option, Some, None, Result, Ok, Err}
use Rattle.std.specs.declared.alloc.Global.{Global}
use Rattle.at_ddp.specs.Outbox.{Posted}
use Rattle.at_event.specs.Outcomes.{IsStep, wants_memory}
use Rattle.at_event.specs.Kinds.{takes_memory}
use Rattle.at_event.specs.declared.Timer.{Timer}
use Rattle.at_event.specs.declared.Report.{Report}
use Rattle.at_event.specs.declared.Report.TheVariants as report
use Rattle.at_faults.specs.declared.fault.LineFault.{LineFault}
use Rattle.at_faults.specs.declared.fault.LineFault.TheVariants.{NoMemory, Unlawful}
use Rattle.at_held.specs.Lines.{BeginsAsCall, Calls, Line, Says, Fires}
use Rattle.at_held.specs.Openings.{IsNodeOf}
use Rattle.at_node.specs.Nodes.{NodeState, called, timed}

pub record HeldState : Type 0 where
  pub node : NodeState
  pub waiting : List Posted  -- what the node sent and nobody took yet, in the order of sending
  pub report : Option (Report Global)  -- what came of the last event, if there was one

-- the node of this number in the setup of the text, before anything happened
abbrev pub IsOpened : List ℕ → ℕ → HeldState → Type 0
IsOpened text number h = IsNodeOf text number h.node × (h.waiting ≡ []) × (h.report ≡ None)

-- a step of a node: the node and what waits, the report, and both after it
abbrev pub NodeStep : Type 1
NodeStep = NodeState → List Posted → Report Global → NodeState → List Posted → Type 0

-- what the node is told to do by a line
abbrev pub Does : Line → NodeStep
Does (Calls call) n before r after out = IsStep (called n call) n before r after out
Does (Fires timer) n before r after out = IsStep (timed n timer) n before r after out

-- the step was taken, and its report is kept
abbrev pub IsTaken : NodeStep → HeldState → HeldState → Type 0
IsTaken S old new =
    (r : Report Global) × S old.node old.waiting r new.node new.waiting × (wants_memory r ≡ false)
    × (new.report ≡ Some r)

-- the step was taken; or it takes memory that is not there, and nothing changed
abbrev pub Happens : {E : Type 0} → NodeStep → HeldState → Result (Unit {0}) E → HeldState → Type 0
Happens S old (Ok u) new = IsTaken S old new
Happens S old (Err e) new =
    (new ≡ old) × ((r : Report Global) × S old.node old.waiting r old.node old.waiting × (wants_memory r ≡ true))

-- the line is of a call, or it says a timer whose step takes memory
abbrev pub LacksMemory : List ℕ → NodeState → Type 0
LacksMemory line n =
    BeginsAsCall line
    ⊎ ((timer : Timer) × Says n.seat.net line (Fires timer)
    × (takes_memory {A = Global} (timed n timer).report ≡ true))

-- The node did what the line says. If the line says nothing, or memory ran out, nothing changed.
abbrev pub Plays : List ℕ → HeldState → Result (Unit {0}) LineFault → HeldState → Type 0
Plays line old (Ok u) new = (told : Line) × Says old.node.seat.net line told × IsTaken (Does told) old new
Plays line old (Err NoMemory) new = (new ≡ old) × LacksMemory line old.node
Plays line old (Err (Unlawful rule)) new = (new ≡ old) × ((told : Line) → ¬ Says old.node.seat.net line told)

-- the number of the refusal, if the last event was refused
abbrev pub refusal_of : Option (Report Global) → Option ℕ
refusal_of (Some (report.Refused number)) = Some number
refusal_of other = None

abbrev pub refusal_in : HeldState → Option ℕ
refusal_in h = refusal_of h.report

-- Nodes that are driven over a cable: what comes of each step, and what the log says of it. S and R say what may come
-- of a send and of a receive on the cable.
use Rattle.std.specs.Prelude.{◌≡◌, ℕ, ◌+◌, ◌⊎◌, Bool, false, List, [], ◌∷◌, ◌++◌, map, find, take, slice_get}
use Rattle.std.specs.Prelude.{Option, Some, None, Result, Ok, Err}
use Rattle.at_cable.specs.declared.fault.CableFault.{CableFault}
use Rattle.at_ddp.specs.Outbox.{Outbox, Posted}
use Rattle.at_ddp.specs.Tables.{replaced}
use Rattle.at_event.specs.Outcomes.{IsStep}
use Rattle.at_event.specs.declared.Report.{Report}
use Rattle.at_node.specs.Nodes.{NodeState, called, timed}
use Rattle.at_setup.specs.declared.setup.Setup.{Setup}
use Rattle.at_nodes.specs.Openings.{opening_node}
use Rattle.at_nodes.specs.Taking.{Receives}
use Rattle.at_nodes.specs.Nodes.{is_numbered}
use Rattle.at_steps.specs.Safety.{IsTableOf, IsTableOfCall, TransactionTable}
use Rattle.at_drive.specs.Arrivals.{Came}
use Rattle.at_drive.specs.Safety.{IsSafe}
use Rattle.at_drive.specs.Sendings.{Sends}
use Rattle.at_drive.specs.declared.log.DriveFault.{DriveFault}
use Rattle.at_drive.specs.declared.log.Log.{Log}
use Rattle.at_drive.specs.declared.step.Step.{Step}
use Rattle.at_drive.specs.declared.step.Step.TheVariants as step

pub record Logged (A : Type 0) : Type 0 where
  pub reports : List (Report A)  -- of each call and timer, and of each poll at which a datagram came
  pub sent : List Outbox  -- what was sent with each of these reports
  pub arrived : List Came  -- what came, with the place of its poll
  pub faults : List ℕ  -- the place of the step of each failed call of the cable

-- the nodes that are driven
pub record Driven : Type 0 where
  pub nodes : List NodeState
  pub failed : Bool  -- the drive found no memory of its own

-- the same with the log of what came of their steps
pub record Driving (A : Type 0) : Type 0 where
  pub nodes : List NodeState
  pub log : Logged A
  pub failed : Bool

abbrev pub logged : {A : Type 0} → Log A → Logged A
logged l =
    record { reports = l.reports.items; sent = l.sent.items; arrived = l.arrived.items; faults = l.faults.items }

-- the nodes, and what came of their steps
abbrev pub with_log : {A : Type 0} → Driven → Logged A → Driving A
with_log d l = record { nodes = d.nodes; log = l; failed = d.failed }

abbrev pub noting : {A : Type 0} → Driven → Log A → Driving A
noting d l = with_log d (logged l)

abbrev pub no_log : {A : Type 0} → Logged A
no_log = record { reports = []; sent = []; arrived = []; faults = [] }

abbrev pub number_of : NodeState → ℕ
number_of n = n.seat.number

-- how many bytes a poll takes at most
abbrev pub most_bytes : ℕ
most_bytes = 600

-- ---- steps

-- A node takes an input by a step T of its own, which is safe, and may want a place there for a transaction. Its report
-- is logged, and what it sends is logged and sent.
pub record Plays {A C : Type 0} (S : C → ℕ → ℕ → List ℕ → Result (Unit {0}) CableFault → C → Type 0) (at k : ℕ)
    (Wants : TransactionTable → Type 0) (T : NodeState → List Posted → Report A → NodeState → List Posted → Type 0)
    (news : List Came) (d : Driving A) (c : C) (d' : Driving A) (c' : C) : Type 0 where
  pub node : NodeState
  pub stands : find (is_numbered k) d.nodes ≡ Some node
  pub report : Report A
  pub after : NodeState
  pub out : Outbox
  pub steps : T node [] report after out.items
  pub safe : IsSafe Wants node report after out.items
  pub notes : List ℕ
  pub sends : Sends S at k out.items c notes c'
  pub nodes : d'.nodes ≡ replaced (is_numbered k) after d.nodes
  pub reports : d'.log.reports ≡ d.log.reports ++ report ∷ []
  pub sent : d'.log.sent ≡ d.log.sent ++ out ∷ []
  pub arrived : d'.log.arrived ≡ d.log.arrived ++ news
  pub faults : d'.log.faults ≡ d.log.faults ++ notes
  pub whole : d'.failed ≡ d.failed

-- what follows an answer of the cable: the node takes what came, nothing happens, or the fault is noted
abbrev pub Polled : {A C : Type 0} → (C → ℕ → ℕ → List ℕ → Result (Unit {0}) CableFault → C → Type 0) → ℕ → ℕ
    → Result (Option (List ℕ)) CableFault → Driving A → C → Driving A → C → Type 0
Polled S at k (Ok (Some bytes)) d c d' c' =
    Plays S at k (IsTableOf bytes) (Receives bytes) (record { at = at; bytes = bytes } ∷ []) d c d' c'
Polled S at k (Ok None) d c d' c' = (d' ≡ d) × (c' ≡ c)
Polled S at k (Err fault) d c d' c' =
    (d' ≡ record d { log = record d.log { faults = d.log.faults ++ at ∷ [] } }) × (c' ≡ c)

-- the cable is asked once for what waits for a node
pub record Polls {A C : Type 0} (S : C → ℕ → ℕ → List ℕ → Result (Unit {0}) CableFault → C → Type 0)
    (R : C → ℕ → ℕ → Result (Option (List ℕ)) CableFault → C → Type 0) (at k : ℕ) (d : Driving A) (c : C)
    (d' : Driving A) (c' : C) : Type 0 where
  pub answer : Result (Option (List ℕ)) CableFault
  pub between : C
  pub receives : R c k most_bytes answer between
  pub polled : Polled S at k answer d between d' c'

-- The step at this place. A call, a timer and bytes that came do to the node what they do in a world.
abbrev pub Drives : {A C : Type 0} → (C → ℕ → ℕ → List ℕ → Result (Unit {0}) CableFault → C → Type 0)
    → (C → ℕ → ℕ → Result (Option (List ℕ)) CableFault → C → Type 0) → ℕ → Step A → Driving A → C → Driving A → C
    → Type 0
Drives S R at (step.Call k call) d c d' c' =
    Plays S at k IsTableOfCall (λ n before r after out. IsStep (called n call) n before r after out) [] d c d' c'
Drives S R at (step.Timer k timer) d c d' c' =
    Plays S at k IsTableOfCall (λ n before r after out. IsStep (timed n timer) n before r after out) [] d c d' c'
Drives S R at (step.Poll k) d c d' c' = Polls S R at k d c d' c'

-- ---- whole drives

-- these steps, of which the first is at this place
abbrev pub Runs : {A C : Type 0} → (C → ℕ → ℕ → List ℕ → Result (Unit {0}) CableFault → C → Type 0)
    → (C → ℕ → ℕ → Result (Option (List ℕ)) CableFault → C → Type 0) → ℕ → List (Step A) → Driving A → C → Driving A
    → C → Type 0
Runs S R at [] d c d' c' = (d' ≡ d) × (c' ≡ c)
Runs {A} {C} S R at (s ∷ ss) d c d' c' =
    (mid : Driving A) × (between : C) × Drives S R at s d c mid between × Runs S R (at + 1) ss mid between d' c'

-- the nodes of a setup before the first step
abbrev pub opening_nodes_of : {A : Type 0} → Setup A → Driven
opening_nodes_of s = record { nodes = map (opening_node s) s.nodes; failed = false }

-- and no log yet
abbrev pub opening_drive : {A : Type 0} → Setup A → Driving A
opening_drive s = record { nodes = map (opening_node s) s.nodes; log = no_log; failed = false }

-- A step that was not driven leaves the cable as it was, but at a poll the cable may have been asked.
abbrev pub IsLeft : {A C : Type 0} → (C → ℕ → ℕ → Result (Option (List ℕ)) CableFault → C → Type 0)
    → Option (Step A) → C → C → Type 0
IsLeft {A} {C} R (Some (step.Poll k)) c c' =
    (c' ≡ c) ⊎ ((answer : Result (Option (List ℕ)) CableFault) × R c k most_bytes answer c')
IsLeft R other c c' = c' ≡ c

-- The log is that of all steps. Or memory ran out at a step, and it is that of the steps before.
abbrev pub IsDrive : {A C : Type 0} → (C → ℕ → ℕ → List ℕ → Result (Unit {0}) CableFault → C → Type 0)
    → (C → ℕ → ℕ → Result (Option (List ℕ)) CableFault → C → Type 0) → Setup A → List (Step A) → C
    → Result (Log A) (DriveFault A) → C → Type 0
IsDrive {A} S R setup steps c (Ok log) c' =
    (d : Driving A) × Runs S R 0 steps (opening_drive setup) c d c' × (logged log ≡ d.log)
IsDrive {A} {C} S R setup steps c (Err f) c' =
    (d : Driving A) × (mid : C) × Runs S R 0 (take f.at steps) (opening_drive setup) c d mid × (logged f.log ≡ d.log)
    × IsLeft R (slice_get steps f.at) mid c'

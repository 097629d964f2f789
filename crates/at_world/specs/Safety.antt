-- What is promised of every play, whatever comes to its nodes, forged bytes included. Out of memory and a refusal have
-- no effect, a number that is told is that of a fault, and the nodes and the world keep to their limits.
use Rattle.std.specs.Prelude.{◌≡◌, ℕ, ◌≤◌, List, [], ◌∷◌, length, slice_get, take, Some, Result, Ok, Err}
use Rattle.at_event.specs.declared.Report.{Report}
use Rattle.at_event.specs.declared.Report.TheVariants as report
use Rattle.at_node.specs.Nodes.{NodeState}
use Rattle.at_setup.specs.declared.event.Event.{Event}
use Rattle.at_setup.specs.declared.event.Event.TheVariants as event
use Rattle.at_setup.specs.declared.setup.Setup.{Setup}
use Rattle.at_steps.specs.Safety.{IsTableOf, IsTableOfCall, IsReason, TransactionTable, number_told}
use Rattle.at_nodes.specs.Nodes.{AreWithin}
use Rattle.at_world.specs.Events.{node_of}
use Rattle.at_world.specs.Plays.{opening_world}
use Rattle.at_world.specs.Sents.{SentDatagram}
use Rattle.at_world.specs.Worlds.{WorldState, Plays, node_at}
use Rattle.at_world.specs.declared.transcript.Transcript.{Transcript}
use Rattle.at_world.specs.declared.transcript.PlayFault.{PlayFault}

-- ---- limits

-- at most 16 nodes stand, which keep to their limits; at most 200,000 events were played and 1,000,000 datagrams sent
pub record KeepsLimits (w : WorldState) : Type 0 where
  pub few_nodes : length w.nodes ≤ 16
  pub within : AreWithin w.nodes
  pub few_events : w.events ≤ 200000
  pub few_sent : length w.sent ≤ 1000000

-- ---- events

-- nothing happened but that an event passed
pub record HasNoEffect (w w' : WorldState) : Type 0 where
  pub nodes : w'.nodes ≡ w.nodes
  pub sent : w'.sent ≡ w.sent
  pub last : w'.last ≡ w.last

-- the event may want a place for a transaction there
abbrev pub Wants : {A : Type 0} → WorldState → Event A → TransactionTable → Type 0
Wants w (event.Deliver which node) table =
    (s : SentDatagram) × (slice_get w.sent which ≡ Some s) × IsTableOf s.bytes table
Wants w (event.Forge node bytes) table = IsTableOf bytes table
Wants w e table = IsTableOfCall table

-- A node told this number. It is that of a fault, and if the fault is a full table, the table is full.
pub record IsTold {A : Type 0} (w : WorldState) (e : Event A) (number : ℕ) : Type 0 where
  pub node : NodeState
  pub stands : node_at w (node_of e) ≡ Some node
  pub reason : IsReason (Wants w e) node number

-- what an event with this report did to a world
pub record IsSafe {A : Type 0} (w : WorldState) (e : Event A) (r : Report A) (w' : WorldState) : Type 0 where
  pub memory : r ≡ report.NoMemory → HasNoEffect w w'
  pub refused : (number : ℕ) → r ≡ report.Refused number → HasNoEffect w w'
  pub told : (number : ℕ) → number_told r ≡ Some number → IsTold w e number
  pub limits : length w.nodes ≤ 16 → KeepsLimits w'

-- ---- plays

-- these events were played so, one after another; each of them was safe, and left a world that keeps to its limits
abbrev pub Safely : {A : Type 0} → WorldState → List (Event A) → List (Report A) → WorldState → Type 0
Safely w [] [] w' = w' ≡ w
Safely w (e ∷ es) (r ∷ rs) w' =
    (mid : WorldState) × Plays w e r mid × IsSafe w e r mid × KeepsLimits mid × Safely mid es rs w'
Safely w [] (r ∷ rs) w' = ⊥
Safely w (e ∷ es) [] w' = ⊥

-- all that was played was safe, from the opening on
abbrev pub IsSafePlay : {A : Type 0} → Setup A → List (Event A) → Result (Transcript A) (PlayFault A) → Type 0
IsSafePlay s events (Ok t) = (w : WorldState) × Safely (opening_world s) events t.reports w × (t.sent ≡ w.sent)
IsSafePlay s events (Err f) =
    (w : WorldState) × Safely (opening_world s) (take f.at events) f.transcript.reports w × (f.transcript.sent ≡ w.sent)

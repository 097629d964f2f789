-- Which happening of the network of requesters and responders a step of a node is (Inside AppleTalk, ATP,
-- "Transactions").
use Rattle.std.specs.Prelude.{◌≡◌, ℕ, ◌^◌, ◌<◌, ◌++◌, Bool, true, false, List, [], ◌∷◌, find, Option, Some, None}
use Rattle.std.specs.List.{AllByRecursion}
use Rattle.at_ddp.specs.declared.address.Address.{Address}
use Rattle.at_atp_frame.specs.Frames.{spelled, Content}
use Rattle.at_atp_requester.specs.Requests.{has_number}
use Rattle.at_atp_responder.specs.Records.{Record, is_key}
use Rattle.at_atp.specs.Lawfully.{IsInRange}
use Rattle.at_ddp.specs.Posts.{put}
use Rattle.at_ddp.specs.Protocols.{atp_kind}
use Rattle.at_steps.specs.Entries.{Coding, AreEntries}
use Rattle.at_atp.specs.Network.{Sent, Drawn, Happening, AllTimely, IsTimely, after, done}
use Rattle.at_atp.specs.Transactions.{Transaction, transaction_of}
use Rattle.at_zip.specs.Tables.{Tables, AreTables}
use Rattle.at_zone_socket.specs.AtpParts.{AtpState}
use Rattle.at_zone_socket.specs.ZoneSockets.{Reading, zones_at}
use Rattle.at_transaction_socket.specs.TransactionSockets.{asking, serving}
use Rattle.at_node.specs.Numbers.{drawn_by}
use Rattle.at_node.specs.Nodes.{NodeState}
use Rattle.at_event.specs.Kinds.{Speaker, Atp}
use Rattle.at_event.specs.Outcomes.{Outcome, Outgoing}
use Rattle.at_node.specs.declared.numbers.Draw.{Draw}
use Rattle.at_node.specs.declared.numbers.Draw.TheVariants.{Tid}
use Rattle.at_event.specs.declared.Report.{Report}
use Rattle.at_event.specs.declared.Report.TheVariants as report
use Rattle.at_event.specs.declared.zones.ZoneReport.TheVariants as zip_report
use Rattle.at_steps.specs.Acts.{Act}
use Rattle.at_steps.specs.AtpReports.{Matches}
use Rattle.at_steps.specs.AtpSteps.{Change, IsStep}
use Rattle.at_steps.specs.Foreign.{IsAnothers}

-- is it ATP's, of which ZIP is a user?
abbrev pub is_atp : Speaker → Bool
is_atp Atp = true
is_atp other = false

-- ---- a node in a network

-- both ends of a transaction are on this AppleTalk network
abbrev pub IsOn : ℕ → Transaction → Type 0
IsOn net t = (t.requester.net ≡ net) × (t.responder.net ≡ net)

-- the transaction that reads a zone table is open
abbrev pub IsOpen : AtpState → Type 0
IsOpen a = (r : Reading) → a.zones.reading ≡ Some r → has_number a.transactions.requester.standing r.tid ≡ true

-- and it is at-least-once: so is the newest transaction of its number
abbrev pub ReadsAtLeastOnce : List Transaction → Address → AtpState → Type 0
ReadsAtLeastOnce asked who a =
    (r : Reading) → a.zones.reading ≡ Some r → (t : Transaction) → transaction_of asked who r.tid ≡ Some t → t.xo
    ≡ false

-- After this history the node's sockets are those of its part. No packet outlived its number, and all that was asked
-- and answered is in range.
pub record Stands (A : Type 0) (history : List Happening) (net number : ℕ) (n : NodeState) : Type 0 where
  pub timely : AllTimely A history
  pub in_range : AllByRecursion IsInRange history
  pub small_net : net < 2 ^ 16
  pub small_number : number < 256
  pub small_router : (router : ℕ) → n.seat.router ≡ Some router → router < 256
  pub on_net : AllByRecursion (IsOn net) (after A history).asked
  pub requester : (after A history).requesters (asking net number) ≡ n.atp.transactions.requester
  pub zones : (after A history).responders (zones_at net number) ≡ n.atp.zones.zone_responder
  pub service : (after A history).responders (serving net number) ≡ n.atp.transactions.service_responder
  pub is_open : IsOpen n.atp
  pub at_least_once : ReadsAtLeastOnce (after A history).asked (asking net number) n.atp
  pub has_tables : (tables : Tables) → n.atp.zones.tables ≡ Some tables → AreTables tables

-- no record of these is of this requester and number
abbrev pub HoldsNo : Address → ℕ → List Record → Type 0
HoldsNo who tid rs = find (is_key (record { from = who; tid = tid })) rs ≡ None

-- ---- what is sent

-- how a datagram carries an ATP packet: by DDP type 3, spelled as ATP has it
abbrev pub atp_coding : Coding Content
atp_coding = record { kind = atp_kind; bytes = spelled }

-- the transaction number that an event drew, if it drew one
abbrev pub numbers_drawn : ℕ → Address → Option Draw → List Drawn
numbers_drawn event who (Some (Tid tid)) = record { event = event; who = who; tid = tid } ∷ []
numbers_drawn event who other = []

-- one of the router's tables is another after this report
abbrev pub sets_table : {A : Type 0} → Report A → Bool
sets_table (report.Zones zip_report.TableSet) = true
sets_table r = false

-- ---- a step of this protocol

-- A node's step with this outcome is one happening of the network: one that its report tells of. The node's sockets
-- become what its part becomes, and all others stay.
pub record Happens (A : Type 0) (history : List Happening) (net number : ℕ) (n : NodeState) (act : Act A)
    (o : Outcome A NodeState) : Type 0 where
  pub happening : Happening
  pub timely : IsTimely A (after A history) happening
  pub in_range : IsInRange happening
  pub same_event : (done A (after A history) happening).event ≡ (after A history).event
  pub requesters : (who : Address) → (done A (after A history) happening).requesters who
      ≡ put (after A history).requesters (asking net number) o.state.atp.transactions.requester who
  pub responders : (at : Address) → (done A (after A history) happening).responders at
      ≡ put (put (after A history).responders (serving net number) o.state.atp.transactions.service_responder)
      (zones_at net number) o.state.atp.zones.zone_responder at
  pub more : List (Option Sent)
  pub sent : (done A (after A history) happening).sent ≡ (after A history).sent ++ more
  pub posts : AreEntries atp_coding (after A history).event o.out more
  pub drawn : (done A (after A history) happening).drawn ≡ (after A history).drawn
      ++ numbers_drawn (after A history).event (asking net number) (drawn_by o.report)
  pub on_net : AllByRecursion (IsOn net) (done A (after A history) happening).asked
  pub is_open : IsOpen o.state.atp
  pub same_tables : sets_table o.report ≡ false → o.state.atp.zones.tables ≡ n.atp.zones.tables
  pub has_tables : (tables : Tables) → o.state.atp.zones.tables ≡ Some tables → AreTables tables
  pub matches : Matches net number n.atp.zones.tables (after A history) happening act o.report

abbrev pub change : {A : Type 0} {history : List Happening} {net number : ℕ} {n : NodeState} {act : Act A}
    {o : Outcome A NodeState} → Happens A history net number n act o → Change A
change {A} {history} {net} {number} {n} {act} {o} h = record {
  asked = (after A history).asked;
  now_asked = (done A (after A history) h.happening).asked;
  part = n.atp;
  now = o.state.atp;
  act = act;
  report = o.report;
}

-- all that is sent is of this protocol
abbrev pub SendsAtp : List Outgoing → Type 0
SendsAtp out = AllByRecursion (λ o. o.kind ≡ atp_kind) out

-- such a happening, which is a step in words of transactions
abbrev pub IsHappening : (A : Type 0) → List Happening → ℕ → ℕ → NodeState → Act A → Outcome A NodeState → Type 0
IsHappening A history net number n act o = (h : Happens A history net number n act o)
    × IsStep net number n.seat.router (change h) × SendsAtp o.out

-- ---- steps of other protocols

-- such a happening, which leaves all transactions and the reading as they were
abbrev pub Passes : (A : Type 0) → List Happening → ℕ → ℕ → NodeState → Act A → Outcome A NodeState → Type 0
Passes A history net number n act o = (h : Happens A history net number n act o)
    × ((done A (after A history) h.happening).asked ≡ (after A history).asked)

-- the step is another protocol's
abbrev pub IsForeign : {A : Type 0} → NodeState → Act A → Outcome A NodeState → Type 0
IsForeign n act o = IsAnothers is_atp atp_kind (λ (m : NodeState). m.atp) n act o

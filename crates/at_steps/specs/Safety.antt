-- What is promised of every event of a node, whatever comes to it. A refused event has no effect. Its number is that of
-- a fault of one of the crates, and so is the number of a page's fault. A full table is told of only if it is full. And
-- no event makes a node send more datagrams than the queues of one end of a stream have room for items, twice.
use Rattle.std.specs.Prelude.{◌≡◌, ℕ, ◌≤◌, List, length, Option, Some, None}
use Rattle.at_ddp.specs.Datagram.{Content as Datagram, BeginsWith}
use Rattle.at_atp_frame.specs.declared.fault.AtpFault.TheVariants.{Full}
use Rattle.at_nbp.specs.declared.fault.NbpFault.TheVariants.{NamesFull, LookupsFull}
use Rattle.at_adsp_end.specs.declared.fault.StreamFault.TheVariants.{EndsFull}
use Rattle.at_event.specs.Kinds.{number_of}
use Rattle.at_event.specs.declared.Reason.{Reason}
use Rattle.at_event.specs.declared.Reason.TheVariants.{OfNames, OfStreams, OfTransactions}
use Rattle.at_event.specs.Outcomes.{Outcome, idle}
use Rattle.at_event.specs.declared.Report.{Report}
use Rattle.at_event.specs.declared.Report.TheVariants as report
use Rattle.at_event.specs.declared.zones.ZoneReport.TheVariants as zip_report
use Rattle.at_node.specs.Nodes.{NodeState}
use Rattle.at_zone_socket.specs.AtpTimers.{records_at}

-- ---- full tables

-- where a transaction has its place: among those that the node asks, or among the records of one of its sockets
pub data TransactionTable : Type 0 where
  Asking : TransactionTable
  Records : (socket : ℕ) → TransactionTable

-- a call or a timer may want a place among the transactions that the node asks
abbrev pub IsTableOfCall : TransactionTable → Type 0
IsTableOfCall table = table ≡ Asking

-- a datagram may want one among the records of the socket that it goes to
pub record IsTableOf (bytes : List ℕ) (table : TransactionTable) : Type 0 where
  pub datagram : Datagram
  pub rest : List ℕ
  pub begins : BeginsWith bytes datagram rest
  pub there : table ≡ Records datagram.to.socket

abbrev pub IsFull : NodeState → TransactionTable → Type 0
IsFull n Asking = 32 ≤ length n.atp.transactions.requester.standing
IsFull n (Records socket) = 64 ≤ length (records_at n.atp socket)

-- the table that is told to be full is full; of transactions it is the one in which the event may want a place
abbrev pub IsTrueOf : (TransactionTable → Type 0) → NodeState → Reason → Type 0
IsTrueOf Wants n (OfTransactions Full) = (table : TransactionTable) × Wants table × IsFull n table
IsTrueOf Wants n (OfNames NamesFull) = 64 ≤ length n.names.table.names
IsTrueOf Wants n (OfNames LookupsFull) = 8 ≤ length n.names.lookups.searches
IsTrueOf Wants n (OfStreams EndsFull) = 16 ≤ length n.streams.ends
IsTrueOf Wants n other = Unit {0}

-- ---- outcomes

-- the number is that of a reason, which is true
pub record IsReason (Wants : TransactionTable → Type 0) (n : NodeState) (number : ℕ) : Type 0 where
  pub why : Reason
  pub numbered : number_of why ≡ Some number
  pub is_true : IsTrueOf Wants n why

-- the number that a report tells, of a refusal or of the fault of a page
abbrev pub number_told : {A : Type 0} → Report A → Option ℕ
number_told (report.Refused number) = Some number
number_told (report.Zones (zip_report.Fault number)) = Some number
number_told other = None

-- what comes of an event at a node, or at one of its parts
pub record IsSafe {A S : Type 0} (Wants : TransactionTable → Type 0) (n : NodeState) (old : S)
    (o : Outcome A S) : Type 0 where
  pub reason : (number : ℕ) → number_told o.report ≡ Some number → IsReason Wants n number
  pub no_effect : (number : ℕ) → o.report ≡ report.Refused number → o ≡ idle old (report.Refused number)
  pub few : length o.out ≤ 131070

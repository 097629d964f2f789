-- The socket of a node for names, 2: what its calls and its timer do (Inside AppleTalk, NBP, "Name registration", "Name
-- lookup").
use Rattle.std.specs.Prelude.{ℕ, ◌||◌, if◌then◌else◌, List, [], ◌∷◌, find, Option, Some, None}
use Rattle.at_ddp.specs.Tables.{without_first}
use Rattle.at_ddp.specs.declared.address.Address.{Address}
use Rattle.at_ddp.specs.Protocols.{nbp_kind}
use Rattle.at_nbp.specs.Fault.{number_of}
use Rattle.at_nbp.specs.Lookups.{Search, beginning, begun, next_id, search_of, sent_question}
use Rattle.at_nbp.specs.NameTables.{is_called, is_no_text, register_fault, registered}
use Rattle.at_nbp.specs.declared.fault.NbpFault.{NbpFault}
use Rattle.at_nbp.specs.declared.fault.NbpFault.TheVariants.{EmptyName, LookupsFull, NoSuchLookup, NoSuchName}
use Rattle.at_nbp.specs.declared.name.Name.{Name}
use Rattle.at_nbp.specs.declared.names.Registered.{Registered}
use Rattle.at_name_socket.specs.NameSockets.{SocketState, any_pattern, claim_begun, finish, finish_fault, names_of}
use Rattle.at_name_socket.specs.declared.step.Finished.{Finished}
use Rattle.at_name_socket.specs.declared.step.Finished.TheVariants as finished
use Rattle.at_event.specs.declared.Report.{Report}
use Rattle.at_event.specs.declared.Report.TheVariants as report
use Rattle.at_event.specs.declared.names.NameReport.TheVariants as nbp_report
use Rattle.at_event.specs.declared.seat.Seat.{Seat}
use Rattle.at_event.specs.Outcomes.{Outcome, Outgoing, idle, refused_as, sent_by}

-- what the socket sends
abbrev pub sent_of : Seat → List (Address × List ℕ) → List Outgoing
sent_of s pushes = sent_by (names_of s.net s.number) nbp_kind pushes

-- the socket becomes this, and nothing is sent
abbrev pub becomes : {A : Type 0} → Report A → SocketState → Outcome A SocketState
becomes r new = record { report = r; state = new; out = [] }

abbrev pub refused_by : {A : Type 0} → SocketState → NbpFault → Outcome A SocketState
refused_by n fault = idle n (refused_as (number_of fault))

-- ---- lookups

-- a lookup asks its question, and the socket becomes this
abbrev pub asks_by : {A : Type 0} → Seat → SocketState → Search → Report A → SocketState → Outcome A SocketState
asks_by s n search r new = record { report = r; state = new; out = sent_of s (sent_question n.lookups search ∷ []) }

-- a lookup begins under this identifier, which asks by this question
abbrev pub looks_up : {A : Type 0} → Seat → SocketState → ℕ → Name → SocketState → Outcome A SocketState
looks_up s n id pattern new = asks_by s n (beginning id pattern) (report.Names (nbp_report.Looking id)) new

abbrev pub found_as : {A : Type 0} → Seat → SocketState → Name → Option ℕ → Outcome A SocketState
found_as s n pattern None = refused_by n LookupsFull
found_as s n pattern (Some id) =
    looks_up s n id pattern (record n { lookups = begun n.lookups (beginning id pattern) })

-- the node's user looks names up that match a pattern
abbrev pub find_called : {A : Type 0} → Seat → SocketState → Name → Outcome A SocketState
find_called s n pattern = found_as s n pattern (next_id n.lookups)

abbrev pub claimed_as : {A : Type 0} → Seat → SocketState → List ℕ → List ℕ → ℕ → Option ℕ → Outcome A SocketState
claimed_as s n object kind socket None = refused_by n LookupsFull
claimed_as s n object kind socket (Some id) =
    looks_up s n id (any_pattern object kind) (claim_begun n id object kind socket)

-- the node's user claims a name for a socket
abbrev pub claim_called : {A : Type 0} → Seat → SocketState → List ℕ → List ℕ → ℕ → Outcome A SocketState
claim_called s n object kind socket =
    if is_no_text object || is_no_text kind then refused_by n EmptyName
    else claimed_as s n object kind socket (next_id n.lookups)

-- the report of the end of a lookup
abbrev pub told_of : {A : Type 0} → Finished A → Report A
told_of (finished.Found finds) = report.Names (nbp_report.Found finds)
told_of finished.Claimed = report.Names nbp_report.Claimed
told_of (finished.Taken f) = report.Names (nbp_report.Taken f)

abbrev pub finished_as : {A : Type 0} → SocketState → ℕ → Option NbpFault → Outcome A SocketState
finished_as n id (Some fault) = refused_by n fault
finished_as {A} n id None = becomes (told_of (finish {A = A} n id).finished) (finish {A = A} n id).state

-- the node's user ends a lookup
abbrev pub finish_called : {A : Type 0} → SocketState → ℕ → Outcome A SocketState
finish_called n id = finished_as n id (finish_fault n id)

abbrev pub asked_again : {A : Type 0} → Seat → SocketState → Option Search → Outcome A SocketState
asked_again s n None = refused_by n NoSuchLookup
asked_again s n (Some search) = asks_by s n search report.Again n

-- the timer of a lookup asks again
abbrev pub lookup_fired : {A : Type 0} → Seat → SocketState → ℕ → Outcome A SocketState
lookup_fired s n id = asked_again s n (search_of n.lookups id)

-- ---- names

abbrev pub registered_as : {A : Type 0} → SocketState → List ℕ → List ℕ → ℕ → Option NbpFault → Outcome A SocketState
registered_as n object kind socket (Some fault) = refused_by n fault
registered_as n object kind socket None =
    becomes (report.Names nbp_report.Registered) (record n { table = registered n.table object kind socket })

-- the node's user registers a name of a socket
abbrev pub register_called : {A : Type 0} → SocketState → List ℕ → List ℕ → ℕ → Outcome A SocketState
register_called n object kind socket =
    registered_as n object kind socket (register_fault n.table.names object kind)

-- the socket without a name of its own
abbrev pub without_name : SocketState → List ℕ → List ℕ → SocketState
without_name n object kind =
    record n { table = record n.table { names = without_first (is_called object kind) n.table.names } }

abbrev pub unregistered_as : {A : Type 0} → SocketState → List ℕ → List ℕ → Option Registered → Outcome A SocketState
unregistered_as n object kind None = refused_by n NoSuchName
unregistered_as n object kind (Some name) = becomes (report.Names nbp_report.Unregistered) (without_name n object kind)

-- the node's user takes a name away
abbrev pub unregister_called : {A : Type 0} → SocketState → List ℕ → List ℕ → Outcome A SocketState
unregister_called n object kind =
    unregistered_as n object kind (find (is_called object kind) n.table.names)

-- A node: its seat, its parts and its user's session, and which of them has each call, each timer and each datagram.
use Rattle.std.specs.Prelude.{◌≡◌, ℕ, ◌==◌, if◌then◌else◌, List, Option}
use Rattle.at_atp_requester.specs.Requests.{retried}
use Rattle.at_ddp.specs.Datagram.{Content as Datagram}
use Rattle.at_ddp.specs.Protocols.{atp_kind, nbp_kind, adsp_kind}
use Rattle.at_adsp_end.specs.declared.rooms.Rooms.{Rooms}
use Rattle.at_adsp_end.specs.declared.tick.Tick.TheVariants as tick
use Rattle.at_adsp_ends.specs.Tables.{EndTable, no_ends}
use Rattle.at_name_socket.specs.NameSockets as names
use Rattle.at_name_socket.specs.NameSockets.{SocketState}
use Rattle.at_name_socket.specs.declared.neighbour.Neighbour.{Neighbour}
use Rattle.at_zip.specs.Tables.{Tables}
use Rattle.at_event.specs.Kinds.{Speaker, Adsp, Atp, Nbp, Nobody}
use Rattle.at_event.specs.declared.names.NameCall.{NameCall}
use Rattle.at_event.specs.declared.names.NameCall.TheVariants.{Find, Claim, Finish, Register, Unregister}
use Rattle.at_event.specs.declared.session.SessionCall.{SessionCall}
use Rattle.at_event.specs.declared.session.SessionCall.TheVariants.{Pick}
use Rattle.at_event.specs.declared.streams.StreamCall.{StreamCall}
use Rattle.at_event.specs.declared.streams.StreamCall.TheVariants.{Open, Listen, Connect, Write, Read, Reset, Close}
use Rattle.at_event.specs.declared.transactions.TransactionCall.{TransactionCall}
use Rattle.at_event.specs.declared.transactions.TransactionCall.TheVariants.{Ask, Answer}
use Rattle.at_event.specs.declared.zones.ZoneCall.{ZoneCall}
use Rattle.at_event.specs.declared.zones.ZoneCall.TheVariants as zone
use Rattle.at_event.specs.declared.Call.{Call}
use Rattle.at_event.specs.declared.Call.TheVariants.{Transactions, Zones, Names, Streams, Session}
use Rattle.at_event.specs.declared.Timer.{Timer}
use Rattle.at_event.specs.declared.Timer.TheVariants as timer
use Rattle.at_event.specs.declared.transactions.TransactionTimer.TheVariants as atp_timer
use Rattle.at_event.specs.declared.names.NameTimer.TheVariants as nbp_timer
use Rattle.at_event.specs.declared.streams.StreamTimer.TheVariants as adsp_timer
use Rattle.at_event.specs.declared.Report.TheVariants as report
use Rattle.at_event.specs.declared.service.Reply.{Reply}
use Rattle.at_event.specs.declared.seat.Seat.{Seat}
use Rattle.at_zone_socket.specs.AtpHearing.{HearsAtp}
use Rattle.at_zone_socket.specs.AtpParts as atp
use Rattle.at_zone_socket.specs.AtpParts.{AtpState, with_transactions, with_zones}
use Rattle.at_node.specs.NameCalls.{claim_called, find_called, finish_called, lookup_fired}
use Rattle.at_node.specs.NameCalls.{register_called, unregister_called}
use Rattle.at_node.specs.NameHearing.{HearsNames}
use Rattle.at_event.specs.Outcomes.{Outcome, Over, Through, idle, over}
use Rattle.at_session.specs.Sessions.{SessionState, address_at, finds_kept, list_kept, new_session, pattern_asked}
use Rattle.at_node.specs.SessionCalls.{open_called, pick_called}
use Rattle.at_transaction_socket.specs.RequesterSocket.{ask_called}
use Rattle.at_zone_socket.specs.AtpTimers.{retry_fired, release_fired}
use Rattle.at_event.specs.Seats.{at_socket}
use Rattle.at_transaction_socket.specs.ServiceSocket.{answer_called}
use Rattle.at_zone_socket.specs.ZoneReading.{zones_called}
use Rattle.at_zone_socket.specs.ZoneSocket.{set_zones_called}
use Rattle.at_stream_socket.specs.Calls.{close_called, connect_called, listen_called, read_called, reset_called}
use Rattle.at_stream_socket.specs.Calls.{tick_fired, write_called}
use Rattle.at_stream_socket.specs.Hearing.{HearsStreams}

pub record NodeState : Type 0 where
  pub seat : Seat
  pub atp : AtpState
  pub names : SocketState
  pub streams : EndTable
  pub session : SessionState

-- the zone tables and the nodes of the cable are the router's alone
abbrev pub opening : Seat → Option (List ℕ) → Option Tables → Option (List Neighbour) → Rooms → NodeState
opening seat zone tables neighbours rooms = record {
  seat = seat;
  atp = atp.opening tables;
  names = names.opening seat.net seat.number seat.router zone neighbours;
  streams = no_ends rooms;
  session = new_session;
}

-- a new state of one part
abbrev pub with_atp : NodeState → AtpState → NodeState
with_atp n part = record n { atp = part }

abbrev pub with_names : NodeState → SocketState → NodeState
with_names n part = record n { names = part }

abbrev pub with_streams : NodeState → EndTable → NodeState
with_streams n part = record n { streams = part }

abbrev pub with_session : NodeState → SessionState → NodeState
with_session n part = record n { session = part }

-- what comes of a packet of ATP, of which the session keeps the zone list that it ends with
abbrev pub over_atp : {A : Type 0} → NodeState → Outcome A AtpState → Outcome A NodeState
over_atp n o = over (λ part. record n { atp = part; session = list_kept n.session o.report }) o

-- what comes of the end of a lookup, of which the session keeps what was found
abbrev pub over_finish : {A : Type 0} → NodeState → Outcome A SocketState → Outcome A NodeState
over_finish n o = over (λ part. record n { names = part; session = finds_kept n.session o.report }) o

-- what a call does to the part of its protocol
abbrev pub transaction_called : {A : Type 0} → Seat → AtpState → TransactionCall A → Outcome A AtpState
transaction_called s a (Ask node socket user bytes wanted xo retries) =
    over (with_transactions a) (ask_called s a.transactions (at_socket s node socket) user bytes wanted xo retries)
transaction_called s a (Answer key packets) = over (with_transactions a) (answer_called s a.transactions key packets)

abbrev pub zone_called : {A : Type 0} → Seat → AtpState → ZoneCall A → Outcome A AtpState
zone_called s a (zone.Read which) = zones_called s a which s.router a.zones.reading
zone_called s a (zone.Set which names) = over (with_zones a) (set_zones_called a.zones a.zones.tables which names)

abbrev pub stream_called : {A : Type 0} → Seat → EndTable → SessionState → StreamCall A → Outcome A EndTable
stream_called s t user (Open index) = open_called s t (address_at user index)
stream_called s t user (Listen on) = listen_called t on
stream_called s t user (Connect node socket) = connect_called s t (at_socket s node socket)
stream_called s t user (Write id items) = write_called s t id items
stream_called s t user (Read id count) = read_called s t id count
stream_called s t user (Reset id) = reset_called s t id
stream_called s t user (Close id) = close_called s t id

abbrev pub session_called : {A : Type 0} → SessionState → SessionCall → Outcome A SessionState
session_called user (Pick zone) = pick_called user zone

-- the same for names, with what the session keeps
abbrev pub name_called : {A : Type 0} → NodeState → NameCall → Outcome A NodeState
name_called n (Find object kind zone) =
    over (with_names n) (find_called n.seat n.names (pattern_asked n.session object kind zone))
name_called n (Claim object kind socket) =
    over (with_names n) (claim_called n.seat n.names object kind socket)
name_called n (Finish id) = over_finish n (finish_called n.names id)
name_called n (Register object kind socket) =
    over (with_names n) (register_called n.names object kind socket)
name_called n (Unregister object kind) = over (with_names n) (unregister_called n.names object kind)

-- ---- which part has a call, a timer and a datagram, a row a protocol

abbrev pub called : {A : Type 0} → NodeState → Call A → Outcome A NodeState
called n (Transactions call) = over (with_atp n) (transaction_called n.seat n.atp call)
called n (Zones call) = over (with_atp n) (zone_called n.seat n.atp call)
called n (Names call) = name_called n call
called n (Streams call) = over (with_streams n) (stream_called n.seat n.streams n.session call)
called n (Session call) = over (with_session n) (session_called n.session call)

abbrev pub timed : {A : Type 0} → NodeState → Timer → Outcome A NodeState
timed n (timer.Transactions (atp_timer.Retry tid)) =
    over (with_atp n) (retry_fired n.seat n.atp tid (retried n.atp.transactions.requester tid))
timed n (timer.Transactions (atp_timer.Release own key)) = over (with_atp n) (release_fired n.atp own key)
timed n (timer.Names (nbp_timer.Lookup id)) = over (with_names n) (lookup_fired n.seat n.names id)
timed n (timer.Streams (adsp_timer.Resend id)) = over (with_streams n) (tick_fired n.seat n.streams id tick.Retransmit)
timed n (timer.Streams (adsp_timer.Probe id)) = over (with_streams n) (tick_fired n.seat n.streams id tick.Probe)

-- the part that speaks a type of datagrams; nobody speaks another
abbrev pub speaker_of : ℕ → Speaker
speaker_of kind =
    if kind == atp_kind then Atp
    else (if kind == nbp_kind then Nbp
    else (if kind == adsp_kind then Adsp
    else Nobody))

-- what a datagram does to the part that speaks its type; one that nobody speaks is ignored
abbrev pub HearsBy : {A : Type 0} → Reply A → NodeState → Datagram → Outcome A NodeState → Speaker → Type 0
HearsBy said n d o Atp = Through (over_atp n) (HearsAtp said n.seat n.atp d) o
HearsBy said n d o Nbp = Over (with_names n) (HearsNames n.seat n.names d) o
HearsBy said n d o Adsp = Over (with_streams n) (HearsStreams n.seat n.streams d) o
HearsBy said n d o other = o ≡ idle n report.Ignored

-- what comes of a datagram that is for this node
abbrev pub HearsMine : {A : Type 0} → Reply A → NodeState → Datagram → Outcome A NodeState → Type 0
HearsMine said n d o = HearsBy said n d o (speaker_of d.kind)

-- the node stays at its seat
abbrev pub KeepsSeat : {A : Type 0} → NodeState → Outcome A NodeState → Type 0
KeepsSeat n o = o.state.seat ≡ n.seat

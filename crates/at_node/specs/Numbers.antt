-- Numbers that are not to be reused while a packet or a record has them: which one an event draws, which are held, and
-- which a datagram carries.
use Rattle.std.specs.Prelude.{◌≡◌, ℕ, ◌||◌, nat_lt, is_none, is_some, if◌then◌else◌, Bool, true, false, List, length}
use Rattle.std.specs.Prelude.{option_map, Option, Some, None}
use Rattle.std.specs.List.{list_any}
use Rattle.at_ddp.specs.Datagram.{Content as Datagram, BeginsWith}
use Rattle.at_ddp.specs.Protocols.{atp_kind, nbp_kind, adsp_kind}
use Rattle.at_atp_frame.specs.Frames.{Content, Spells}
use Rattle.at_atp_frame.specs.Frames.{owner, number_of}
use Rattle.at_atp_requester.specs.Requests.{next_number}
use Rattle.at_atp_responder.specs.Records.{is_from}
use Rattle.at_nbp.specs.Lookups.{next_id}
use Rattle.at_nbp.specs.NameTables.{is_no_text}
use Rattle.at_adsp_ends.specs.Tables.{has_remote_at, next_id as next_end}
use Rattle.at_name_socket.specs.Carrying as names
use Rattle.at_stream_socket.specs.Carrying as streams
use Rattle.at_stream_socket.specs.Hearing.{Makes}
use Rattle.at_event.specs.Outcomes.{Outcome}
use Rattle.at_event.specs.Seats.{is_mine}
use Rattle.at_event.specs.declared.names.NameCall.{NameCall}
use Rattle.at_event.specs.declared.names.NameCall.TheVariants.{Find, Claim}
use Rattle.at_event.specs.declared.streams.StreamCall.{StreamCall}
use Rattle.at_event.specs.declared.streams.StreamCall.TheVariants.{Open, Connect}
use Rattle.at_event.specs.declared.transactions.TransactionCall.{TransactionCall}
use Rattle.at_event.specs.declared.transactions.TransactionCall.TheVariants.{Ask, Answer}
use Rattle.at_event.specs.declared.zones.ZoneCall.{ZoneCall}
use Rattle.at_event.specs.declared.zones.ZoneCall.TheVariants as zone
use Rattle.at_event.specs.declared.Call.{Call}
use Rattle.at_event.specs.declared.Call.TheVariants.{Transactions, Zones, Names, Streams}
use Rattle.at_event.specs.declared.Report.{Report}
use Rattle.at_event.specs.declared.Report.TheVariants as report
use Rattle.at_event.specs.declared.transactions.TransactionReport.TheVariants as atp_report
use Rattle.at_event.specs.declared.names.NameReport.TheVariants as nbp_report
use Rattle.at_event.specs.declared.streams.StreamReport.TheVariants as adsp_report
use Rattle.at_event.specs.declared.service.Reply.{Reply}
use Rattle.at_session.specs.Sessions.{address_at}
use Rattle.at_zone_socket.specs.Turning.{HasTurn}
use Rattle.at_node.specs.Hearing.{Hears}
use Rattle.at_node.specs.Nodes.{NodeState}
use Rattle.at_node.specs.declared.numbers.Draw.{Draw}
use Rattle.at_node.specs.declared.numbers.Draw.TheVariants.{Tid, Lookup, Conn}
use Rattle.at_node.specs.declared.numbers.Input.{Input}
use Rattle.at_node.specs.declared.numbers.Input.TheVariants as input

-- the number that the node drew, if this is its report
abbrev pub drawn_by : {A : Type 0} → Report A → Option Draw
drawn_by (report.Transactions (atp_report.Begun tid)) = Some (Tid tid)
drawn_by (report.Names (nbp_report.Looking id)) = Some (Lookup id)
drawn_by (report.Streams (adsp_report.Opening id)) = Some (Conn id)
drawn_by (report.Streams (adsp_report.Made id)) = Some (Conn id)
drawn_by other = None

-- the next number of a transaction, the next identifier of a lookup, and the next of an end
abbrev pub next_tid : NodeState → Option Draw
next_tid n = option_map (λ tid. Tid tid) (next_number n.atp.transactions.requester)

abbrev pub next_lookup : NodeState → Option Draw
next_lookup n = option_map (λ id. Lookup id) (next_id n.names.lookups)

abbrev pub next_conn : NodeState → Option Draw
next_conn n = option_map (λ id. Conn id) (next_end n.streams)

-- The number that a call will draw, if memory does not run out: the next one, if the call begins a transaction, a
-- lookup or an end. Refused are a zone table without a router or while one is read, a request of more than 578 bytes, a
-- claim that names nothing, and a place where nothing was found.
abbrev pub transaction_draw : {A : Type 0} → NodeState → TransactionCall A → Option Draw
transaction_draw n (Ask node socket user bytes wanted xo retries) =
    if nat_lt 578 (length bytes) then None else next_tid n
transaction_draw n (Answer key packets) = None

abbrev pub zone_draw : {A : Type 0} → NodeState → ZoneCall A → Option Draw
zone_draw n (zone.Read which) = if is_none n.seat.router || is_some n.atp.zones.reading then None else next_tid n
zone_draw n (zone.Set which names) = None

abbrev pub name_draw : NodeState → NameCall → Option Draw
name_draw n (Find object kind _) = next_lookup n
name_draw n (Claim object kind socket) = if is_no_text object || is_no_text kind then None else next_lookup n
name_draw n other = None

abbrev pub stream_draw : {A : Type 0} → NodeState → StreamCall A → Option Draw
stream_draw n (Connect node socket) = next_conn n
stream_draw n (Open index) = if is_none (address_at n.session index) then None else next_conn n
stream_draw n other = None

abbrev pub draw_of : {A : Type 0} → NodeState → Call A → Option Draw
draw_of n (Transactions call) = transaction_draw n call
draw_of n (Zones call) = zone_draw n call
draw_of n (Names call) = name_draw n call
draw_of n (Streams call) = stream_draw n call
draw_of n other = None

-- a datagram for the node makes it draw this number: a page of a zone table, or a request that makes an end does
abbrev pub DrawsBy : NodeState → Datagram → Draw → Type 0
DrawsBy n d (Tid tid) = (d.kind ≡ atp_kind) × HasTurn n.atp d tid
DrawsBy n d (Lookup id) = ⊥
DrawsBy n d (Conn id) = (d.kind ≡ adsp_kind) × Makes n.streams d id

-- a datagram makes the node draw this number, if it is to the node's own number
abbrev pub DrawsIt : NodeState → Datagram → Draw → Type 0
DrawsIt n d draw = (is_mine n.seat d.to ≡ true) × DrawsBy n d draw

-- received bytes make the node draw this number: they begin with such a datagram
pub record DrawsHearing (n : NodeState) (bytes : List ℕ) (draw : Draw) : Type 0 where
  pub datagram : Datagram
  pub rest : List ℕ
  pub begins : BeginsWith bytes datagram rest
  pub draws : DrawsIt n datagram draw

-- the number that an input makes the node draw; a timer draws none
abbrev pub Draws : {A : Type 0} → NodeState → Input A → Draw → Type 0
Draws n (input.Call call) draw = draw_of n call.now ≡ Some draw
Draws n (input.Timer timer) draw = ⊥
Draws n (input.Received bytes) draw = DrawsHearing n bytes.now draw

-- what comes of these bytes, whatever the service replies, tells of this number
pub record IsTold (A : Type 0) (n : NodeState) (bytes : List ℕ) (draw : Draw) : Type 0 where
  pub said : Reply A
  pub outcome : Outcome A NodeState
  pub hears : Hears said n bytes outcome
  pub tells : drawn_by outcome.report ≡ Some draw

-- does the node hold a record of a request of that node with this number, or an end that is connected to one there
-- with this identifier? nobody holds the identifier of a lookup
abbrev pub holds : NodeState → ℕ → Draw → Bool
holds n node (Tid tid) =
    list_any (is_from node tid) n.atp.zones.zone_responder
    || list_any (is_from node tid) n.atp.transactions.service_responder
holds n node (Lookup id) = false
holds n node (Conn id) = list_any (has_remote_at node id) n.streams.ends

-- the datagram carries this number of the node: its packet has the number of a transaction of the node, or the
-- identifier of a lookup or of an end of it
abbrev pub CarriesNumber : Datagram → ℕ → Draw → Type 0
CarriesNumber d node (Tid tid) =
    (d.kind ≡ atp_kind) × ((packet : Content) × Spells d.data_ packet × ((owner d.from d.to packet).node ≡ node)
    × (number_of packet ≡ tid))
CarriesNumber d node (Lookup id) = (d.kind ≡ nbp_kind) × names.Carries d.to d.data_ node id
CarriesNumber d node (Conn id) = (d.kind ≡ adsp_kind) × streams.Carries d.from d.to d.data_ node id

-- the bytes begin with a datagram that carries this number of the node
pub record Carries (bytes : List ℕ) (node : ℕ) (draw : Draw) : Type 0 where
  pub datagram : Datagram
  pub rest : List ℕ
  pub begins : BeginsWith bytes datagram rest
  pub number : CarriesNumber datagram node draw

-- the identifier of an end, as a number that its node draws
abbrev pub end_drawn : Option (ℕ × ℕ) → Option (ℕ × Draw)
end_drawn None = None
end_drawn (Some p) = Some (p.0, Conn p.1)

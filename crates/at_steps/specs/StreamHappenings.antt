-- Which happening of the network of ends of streams a step of a node is (Inside AppleTalk, ADSP, "Connection ends").
use Rattle.std.specs.Prelude.{◌≡◌, ℕ, ◌^◌, ◌<◌, ◌==◌, ◌&&◌, ◌++◌, nat_lt, Bool, true, false, List, [], ◌∷◌, map}
use Rattle.std.specs.Prelude.{option_map, Option, Some, None, ◌⊎◌}
use Rattle.std.specs.List.{AllByRecursion}
use Rattle.at_ddp.specs.Datagram.{IsAddress}
use Rattle.at_ddp.specs.declared.address.Address.{Address}
use Rattle.at_adsp_frame.specs.Segments.{spelled, Content}
use Rattle.at_adsp_end.specs.Positions.{wire}
use Rattle.at_adsp_end.specs.declared.tick.Tick.TheVariants.{Probe, Retransmit}
use Rattle.at_adsp.specs.Connections.{streams}
use Rattle.at_adsp.specs.Lawfully.{IsInRange, IsLawfulSetting}
use Rattle.at_adsp.specs.Network.{AllTimely, Closes, Connects, Happening, IsTimely, Listens, Other, Reads, Resets}
use Rattle.at_ddp.specs.Posts.{put}
use Rattle.at_ddp.specs.Protocols.{adsp_kind}
use Rattle.at_steps.specs.Entries.{Coding, AreEntries}
use Rattle.at_adsp.specs.Network.{Sent, Setting, Strange, Takes, Ticks, Writes, after, done}
use Rattle.at_adsp.specs.Streams.{Stream}
use Rattle.at_nbp.specs.declared.find.Find.{Find as Found}
use Rattle.at_session.specs.Sessions.{SessionState, address_at}
use Rattle.at_event.specs.Kinds.{Speaker, Adsp}
use Rattle.at_event.specs.Outcomes.{Outcome}
use Rattle.at_event.specs.declared.Call.TheVariants.{Streams}
use Rattle.at_event.specs.declared.streams.StreamCall.TheVariants.{Open, Listen, Connect, Write, Read, Reset, Close}
use Rattle.at_event.specs.declared.Report.{Report}
use Rattle.at_event.specs.declared.Report.TheVariants as report
use Rattle.at_event.specs.declared.streams.StreamReport.TheVariants as adsp_report
use Rattle.at_event.specs.declared.Timer.TheVariants as timer
use Rattle.at_event.specs.declared.streams.StreamTimer.TheVariants as adsp_timer
use Rattle.at_node.specs.Numbers.{drawn_by}
use Rattle.at_node.specs.Nodes.{NodeState}
use Rattle.at_node.specs.declared.numbers.Draw.{Draw}
use Rattle.at_node.specs.declared.numbers.Draw.TheVariants.{Conn}
use Rattle.at_stream_socket.specs.Sockets.{streams_at}
use Rattle.at_steps.specs.Acts.{Act, Calls, Fires, Gets}
use Rattle.at_steps.specs.Foreign.{IsAnothers}
use Rattle.at_steps.specs.StreamSteps.{Change, IsStep}

-- is it ADSP's?
abbrev pub is_adsp : Speaker → Bool
is_adsp Adsp = true
is_adsp other = false

-- ---- a node in a network

-- is this the socket for streams of a node on this AppleTalk network? nodes have 1 to 254
abbrev pub is_streams_socket : ℕ → Address → Bool
is_streams_socket net at =
    (at.net == net) && ((nat_lt 0 at.node && nat_lt at.node 255) && (at.socket == 130))

-- it happens at such a socket, which asks for connections on the same network
abbrev pub IsHere : ℕ → Happening → Type 0
IsHere net (Connects at to) = (is_streams_socket net at ≡ true) × (to.net ≡ net)
IsHere net (Listens at on) = is_streams_socket net at ≡ true
IsHere net (Closes at id) = is_streams_socket net at ≡ true
IsHere net (Writes at id items) = is_streams_socket net at ≡ true
IsHere net (Reads at id count) = is_streams_socket net at ≡ true
IsHere net (Resets at id) = is_streams_socket net at ≡ true
IsHere net (Ticks at id tick) = is_streams_socket net at ≡ true
IsHere net (Strange at from segment) = ⊥
IsHere net other = Unit {0}

-- an address on this network, in range
abbrev pub IsOpenable : ℕ → Found → Type 0
IsOpenable net f = (f.address.net ≡ net) × IsAddress f.address

-- After this history the ends at the node's socket are those of its part. No segment outlived its identifiers, all that
-- was asked, called and written is in range, and it all happened at the sockets for streams of this network. What the
-- node's user was told of lies on it too.
pub record Stands (setting : Setting) (history : List Happening) (net number : ℕ) (n : NodeState) : Type 0 where
  pub lawful : IsLawfulSetting setting
  pub numbers : setting.numbers ≡ wire
  pub ours : setting.ours ≡ is_streams_socket net
  pub timely : AllTimely setting history
  pub in_range : AllByRecursion IsInRange history
  pub here : AllByRecursion (IsHere net) history
  pub small_net : net < 2 ^ 16
  pub some_number : 0 < number
  pub small_number : number < 255
  pub stands : (after setting history).tables (streams_at net number) ≡ n.streams
  pub finds : AllByRecursion (IsOpenable net) n.session.finds

-- ---- what is sent and drawn

-- how a datagram carries an ADSP packet: by DDP type 7, spelled as ADSP has it
abbrev pub stream_coding : Coding Content
stream_coding = record { kind = adsp_kind; bytes = spelled }

-- an identifier that was drawn: by which event, and at which socket
pub record Drawn : Type 0 where
  pub event : ℕ
  pub who : Address
  pub id : ℕ

-- the identifiers that were ever drawn, newest first: each end that was made has one
abbrev pub identifiers : List Stream → List Drawn
identifiers ss = map (λ (s : Stream). record { event = s.birth; who = s.owner; id = s.id }) ss

-- the identifier that an event drew, if it drew one
abbrev pub numbers_drawn : ℕ → Address → Option Draw → List Drawn
numbers_drawn event who (Some (Conn id)) = record { event = event; who = who; id = id } ∷ []
numbers_drawn event who other = []

-- ---- a step of this protocol

-- The happening of a call, a timer or a datagram at a socket, if it is of this protocol. Only what succeeds resets a
-- stream.
abbrev pub happening_of : {A : Type 0} → SessionState → Address → Act A → Report A → Option Happening
happening_of s at (Calls (Streams (Open index))) r = option_map (Connects at) (address_at s index)
happening_of s at (Calls (Streams (Connect node socket))) r =
    Some (Connects at (record { net = at.net; node = node; socket = socket }))
happening_of s at (Calls (Streams (Listen on))) r = Some (Listens at on)
happening_of s at (Calls (Streams (Close id))) r = Some (Closes at id)
happening_of s at (Calls (Streams (Write id items))) r = Some (Writes at id items)
happening_of s at (Calls (Streams (Read id count))) r = Some (Reads at id count)
happening_of s at (Calls (Streams (Reset id))) (report.Streams adsp_report.Reset) = Some (Resets at id)
happening_of s at (Fires (timer.Streams (adsp_timer.Resend id))) r = Some (Ticks at id Retransmit)
happening_of s at (Fires (timer.Streams (adsp_timer.Probe id))) r = Some (Ticks at id Probe)
happening_of s at (Gets datagram) r = Some (Takes datagram)
happening_of s at act r = None

-- it is this happening, or nothing happens here
abbrev pub IsOf : {A : Type 0} → SessionState → Address → Act A → Report A → Happening → Type 0
IsOf s at act r h = (happening_of s at act r ≡ Some h) ⊎ ((count : ℕ) × (h ≡ Other count))

-- A node's step with this outcome is one happening of the network. The ends at the node's socket become what its part
-- becomes, and all others stay.
pub record Happens {A : Type 0} (setting : Setting) (history : List Happening) (net number : ℕ) (n : NodeState)
    (act : Act A) (o : Outcome A NodeState) : Type 0 where
  pub happening : Happening
  pub timely : IsTimely setting (after setting history) happening
  pub in_range : IsInRange happening
  pub here : IsHere net happening
  pub is_of : IsOf n.session (streams_at net number) act o.report happening
  pub same_event : (done setting (after setting history) happening).event ≡ (after setting history).event
  pub tables : (at : Address) → (done setting (after setting history) happening).tables at
      ≡ put (after setting history).tables (streams_at net number) o.state.streams at
  pub more : List (Option Sent)
  pub sent : (done setting (after setting history) happening).sent ≡ (after setting history).sent ++ more
  pub posts : AreEntries stream_coding (after setting history).event o.out more
  pub drawn : identifiers (streams (done setting (after setting history) happening))
      ≡ numbers_drawn (after setting history).event (streams_at net number) (drawn_by o.report)
      ++ identifiers (streams (after setting history))

abbrev pub change : {A : Type 0} {setting : Setting} {history : List Happening} {net number : ℕ} {n : NodeState}
    {act : Act A} {o : Outcome A NodeState} → Happens setting history net number n act o → Change A
change {A} {setting} {history} {net} {number} {n} {act} {o} h = record {
  part = streams (after setting history);
  now = streams (done setting (after setting history) h.happening);
  event = (after setting history).event;
  at = streams_at net number;
  sent = (after setting history).sent;
  session = n.session;
  act = act;
  report = o.report;
}

-- such a happening, which is a step in words of streams
abbrev pub IsHappening : {A : Type 0} → Setting → List Happening → ℕ → ℕ → NodeState → Act A → Outcome A NodeState
    → Type 0
IsHappening setting history net number n act o =
    (h : Happens setting history net number n act o) × IsStep (change h)

-- ---- steps of other protocols

-- such a happening, which leaves all streams as they were
abbrev pub Passes : {A : Type 0} → Setting → List Happening → ℕ → ℕ → NodeState → Act A → Outcome A NodeState → Type 0
Passes setting history net number n act o =
    (h : Happens setting history net number n act o)
    × (streams (done setting (after setting history) h.happening) ≡ streams (after setting history))

-- the step is another protocol's
abbrev pub IsForeign : {A : Type 0} → NodeState → Act A → Outcome A NodeState → Type 0
IsForeign n act o = IsAnothers is_adsp adsp_kind (λ (m : NodeState). m.streams) n act o

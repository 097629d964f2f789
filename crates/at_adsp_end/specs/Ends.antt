-- An end of a stream, and its packets (Inside AppleTalk, ADSP, "Connection ends").
use Rattle.std.specs.Prelude.{ℕ, ◌+◌, ◌-◌, ◌<◌, ◌≤◌, ◌==◌, ◌&&◌, Bool, true, false, List, [], length, map}
use Rattle.std.specs.Prelude.{Option, Some, None}
use Rattle.at_ddp.specs.Address.{same_address}
use Rattle.at_ddp.specs.Outbox.{Outbox}
use Rattle.at_ddp.specs.Sending.{Sends}
use Rattle.at_ddp.specs.declared.address.Address.{Address}
use Rattle.at_adsp_frame.specs.Segments.{Content, Part, Open, Probe, spelled}
use Rattle.at_adsp_frame.specs.declared.segment.OpenKind.TheVariants.{Request, Acknowledgement}
use Rattle.at_adsp_frame.specs.declared.segment.OpenKind.TheVariants.{RequestAndAcknowledgement, Denial}
use Rattle.at_adsp_end.specs.Positions.{Numbers}
use Rattle.at_adsp_end.specs.declared.item.Item.{Item}
use Rattle.at_adsp_end.specs.declared.phase.Phase.{Phase}
use Rattle.at_adsp_end.specs.declared.phase.Phase.TheVariants as phase
use Rattle.at_adsp_end.specs.declared.remote.Remote.{Remote}
use Rattle.at_adsp_end.specs.declared.rooms.Rooms.{Rooms}

-- what an end sends: the number of the first item that is not acknowledged, the items that were sent and are not
-- acknowledged, those that wait to be sent, how many more may be sent, and whether a forward reset is unanswered
pub record Sender : Type 0 where
  pub front : ℕ
  pub unacknowledged : List Item
  pub waiting : List Item
  pub credit : ℕ
  pub resetting : Bool

-- what an end receives: the number of the next item that it expects, and what came and is not read
pub record Receiver : Type 0 where
  pub received : ℕ
  pub unread : List Item

-- An end: its identifier, whether listening made it, the address that it asked or that asked it, the other end if it
-- knows that, its phase, both halves, the probe ticks since it last heard the other end, and how many items its queues
-- hold.
pub record EndState : Type 0 where
  pub id : ℕ
  pub listener : Bool
  pub asked : Address
  pub remote : Option Remote
  pub phase : Phase
  pub sender : Sender
  pub receiver : Receiver
  pub ticks : ℕ
  pub receive_room : ℕ
  pub send_room : ℕ

-- ---- how an end begins

abbrev pub no_sender : Sender
no_sender = record {
  front = 0;
  unacknowledged = [];
  waiting = [];
  credit = 0;
  resetting = false;
}

abbrev pub no_receiver : Receiver
no_receiver = record { received = 0; unread = [] }

-- an end that asks this address for a connection
abbrev pub connector : Rooms → ℕ → Address → EndState
connector rooms id to = record {
  id = id;
  listener = false;
  asked = to;
  remote = None;
  phase = phase.Opening;
  sender = no_sender;
  receiver = no_receiver;
  ticks = 0;
  receive_room = rooms.receive;
  send_room = rooms.send;
}

-- an end that answers the request of this one
abbrev pub half_end : Rooms → ℕ → Remote → EndState
half_end rooms id from = record {
  id = id;
  listener = true;
  asked = from.address;
  remote = Some from;
  phase = phase.Half;
  sender = no_sender;
  receiver = no_receiver;
  ticks = 0;
  receive_room = rooms.receive;
  send_room = rooms.send;
}

-- an open end whose next item has this number, both of what it sends and of what it receives
abbrev pub open_end : Rooms → ℕ → Remote → ℕ → EndState
open_end rooms id remote number = record {
  id = id;
  listener = false;
  asked = remote.address;
  remote = Some remote;
  phase = phase.Open;
  sender = record no_sender { front = number };
  receiver = record { received = number; unread = [] };
  ticks = 0;
  receive_room = rooms.receive;
  send_room = rooms.send;
}

-- the queues of an end fit their rooms, which hold at most 65,535 items
pub record FitsRooms (e : EndState) : Type 0 where
  pub unread : length e.receiver.unread ≤ e.receive_room
  pub queued : length e.sender.unacknowledged + length e.sender.waiting ≤ e.send_room
  pub receive_room : e.receive_room < 65536
  pub send_room : e.send_room < 65536

-- ---- what is asked of an end

abbrev pub same_remote : Remote → Remote → Bool
same_remote a b = same_address a.address b.address && (a.id == b.id)

abbrev pub is_remote : Remote → Option Remote → Bool
is_remote r None = false
is_remote r (Some q) = same_remote r q

-- the end is connected to this one, or is about to be
abbrev pub has_remote : Remote → EndState → Bool
has_remote r e = is_remote r e.remote

abbrev pub is_opening : Phase → Bool
is_opening phase.Opening = true
is_opening other = false

abbrev pub is_half : Phase → Bool
is_half phase.Half = true
is_half other = false

abbrev pub is_open : Phase → Bool
is_open phase.Open = true
is_open other = false

abbrev pub is_closed : Phase → Bool
is_closed phase.Closed = true
is_closed other = false

-- the end is open, or was
abbrev pub has_opened : Phase → Bool
has_opened phase.Open = true
has_opened phase.Closed = true
has_opened other = false

-- the number that the next item to be sent gets
abbrev pub next_unsent : Numbers → Sender → ℕ
next_unsent N s = N.at (s.front + length s.unacknowledged)

-- the number of the first item that may not be sent yet
abbrev pub limit : Numbers → Sender → ℕ
limit N s = N.at (s.front + length s.unacknowledged + s.credit)

-- how many more items the end can receive
abbrev pub free : EndState → ℕ
free e = e.receive_room - length e.receiver.unread

-- how many more items can be written
abbrev pub places : EndState → ℕ
places e = e.send_room - (length e.sender.unacknowledged + length e.sender.waiting)

-- ---- its packets

-- every packet tells what the end expects next, and how much of it
abbrev pub packet : EndState → ℕ → Bool → Part → Content
packet e first ack body = record {
  source = e.id;
  first = first;
  next = e.receiver.received;
  window = free e;
  ack = ack;
  body = body;
}

-- a packet without data has the number of the next item to be sent
abbrev pub control : Numbers → EndState → Bool → Part → Content
control N e ack body = packet e (next_unsent N e.sender) ack body

-- the request for a connection has no numbers yet
abbrev pub asking : EndState → Content
asking e = record {
  source = e.id;
  first = 0;
  next = 0;
  window = free e;
  ack = false;
  body = Open Request 0;
}

abbrev pub id_of : Option Remote → ℕ
id_of None = 0
id_of (Some r) = r.id

-- the answer to a request
abbrev pub answering : Numbers → EndState → Content
answering N e = control N e false (Open RequestAndAcknowledgement (id_of e.remote))

-- the acknowledgement of such an answer
abbrev pub confirming : Numbers → EndState → Content
confirming N e = control N e false (Open Acknowledgement (id_of e.remote))

abbrev pub probing : Numbers → EndState → Content
probing N e = control N e true Probe

abbrev pub acknowledging : Numbers → EndState → Content
acknowledging N e = control N e false Probe

-- the denial of the request of an end with this identifier is of no end here
abbrev pub denying : ℕ → Content
denying id = record {
  source = 0;
  first = 0;
  next = 0;
  window = 0;
  ack = false;
  body = Open Denial id;
}

-- what an end does: the end after it, and the packets that it sends
pub record Change : Type 0 where
  pub after : EndState
  pub sent : List Content

-- packets to one address
abbrev pub addressed : Address → List Content → List (Address × Content)
addressed to sent = map (λ (s : Content). (to, s)) sent

-- packets with their destinations, as they are sent
abbrev pub spelled_all : List (Address × Content) → List (Address × List ℕ)
spelled_all sent = map (λ (s : Address × Content). (s.0, spelled s.1)) sent

-- the new list is the old one after these packets to one address
abbrev pub SendsTo : Outbox → Outbox → Address → List Content → Type 0
SendsTo old new to sent = Sends old new (spelled_all (addressed to sent))

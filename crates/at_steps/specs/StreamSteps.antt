-- What a step of a node is in words of streams alone (Inside AppleTalk, ADSP, "Opening a connection", "Data flow").
-- Positions, windows and timers play no part. Of the segment that comes only its sender plays one.
use Rattle.std.specs.Prelude.{◌≡◌, ℕ, ◌≤◌, ◌==◌, Bool, true, false, List, ◌∷◌, find, length, take, Option, Some}
use Rattle.std.specs.Prelude.{None}
use Rattle.at_ddp.specs.declared.address.Address.{Address}
use Rattle.at_adsp_end.specs.declared.item.Item.{Item}
use Rattle.at_adsp.specs.Connections.{begun}
use Rattle.at_adsp.specs.Meetings.{OpensWith}
use Rattle.at_ddp.specs.Posts.{packet_at}
use Rattle.at_adsp.specs.Network.{Sent}
use Rattle.at_adsp.specs.Streams.{Stream, GaveUp, Read as ReadItems, Wrote as WroteItems, has_number, with_deed}
use Rattle.at_event.specs.declared.Call.TheVariants.{Streams}
use Rattle.at_event.specs.declared.streams.StreamCall.TheVariants.{Open, Listen, Connect, Write, Read, Reset, Close}
use Rattle.at_event.specs.declared.Report.{Report}
use Rattle.at_event.specs.declared.Report.TheVariants as report
use Rattle.at_event.specs.declared.streams.StreamReport.{StreamReport}
use Rattle.at_event.specs.declared.streams.StreamReport.TheVariants as adsp_report
use Rattle.at_event.specs.declared.Timer.TheVariants as timer
use Rattle.at_event.specs.declared.streams.StreamTimer.TheVariants as adsp_timer
use Rattle.at_session.specs.Sessions.{SessionState, address_at}
use Rattle.at_steps.specs.Acts.{Act, Calls, Fires, Gets}

-- A report of streams that says nothing new of them as their users see them. The end that closes or is freed by a call
-- or a timer is the one that it names.
abbrev pub is_plain_report : {A : Type 0} → StreamReport A → Act A → Bool
is_plain_report adsp_report.ListenSet (Calls (Streams (Listen on))) = true
is_plain_report (adsp_report.Closed it) (Calls (Streams (Close id))) = it == id
is_plain_report (adsp_report.Closed it) (Fires (timer.Streams (adsp_timer.Probe id))) = it == id
is_plain_report (adsp_report.Closed it) (Gets datagram) = true
is_plain_report (adsp_report.Freed it) (Calls (Streams (Close id))) = it == id
is_plain_report (adsp_report.Freed it) (Fires (timer.Streams (adsp_timer.Probe id))) = it == id
is_plain_report adsp_report.Idle (Fires (timer.Streams (adsp_timer.Resend id))) = true
is_plain_report adsp_report.Turned (Gets datagram) = true
is_plain_report (adsp_report.Denied id) (Gets datagram) = true
is_plain_report (adsp_report.Heard id items) (Gets datagram) = true
is_plain_report (adsp_report.Dropped id) (Gets datagram) = true
is_plain_report r act = false

-- a report that says nothing new of streams: one of theirs, or one that other parts give too
abbrev pub is_plain : {A : Type 0} → Act A → Report A → Bool
is_plain act (report.Streams r) = is_plain_report r act
is_plain act (report.Refused number) = true
is_plain act report.NoMemory = true
is_plain (Fires (timer.Streams time)) report.Again = true
is_plain (Gets datagram) report.Ignored = true
is_plain (Gets datagram) report.Again = true
is_plain act r = false

-- All ends that were ever made, before and after, newest first; the number of the event, the node's socket, all that
-- was sent before, and the session of the node's user; what happened, and its report
pub record Change (A : Type 0) : Type 0 where
  pub part : List Stream
  pub now : List Stream
  pub event : ℕ
  pub at : Address
  pub sent : List (Option Sent)
  pub session : SessionState
  pub act : Act A
  pub report : Report A

-- an end got this identifier at the node
pub record HasEnd {A : Type 0} (c : Change A) (id : ℕ) : Type 0 where
  pub stream : Stream
  pub made : find (has_number c.at id) c.part ≡ Some stream

-- the end that such a report names, if it names one
abbrev pub named_by : {A : Type 0} → Report A → Option ℕ
named_by (report.Streams (adsp_report.Denied id)) = Some id
named_by (report.Streams (adsp_report.Heard id items)) = Some id
named_by (report.Streams (adsp_report.Dropped id)) = Some id
named_by (report.Streams (adsp_report.Closed id)) = Some id
named_by (report.Streams (adsp_report.Freed id)) = Some id
named_by other = None

-- nothing but what the report says
pub record IsPlain {A : Type 0} (c : Change A) : Type 0 where
  pub plain : is_plain c.act c.report ≡ true
  pub stands : (id : ℕ) → named_by c.report ≡ Some id → HasEnd c id
  pub streams : c.now ≡ c.part

-- the address that a call asks for a connection: one on this network, or that of what was found
abbrev pub asked_by : {A : Type 0} → SessionState → ℕ → Act A → Option Address
asked_by s net (Calls (Streams (Connect node socket))) = Some (record { net = net; node = node; socket = socket })
asked_by s net (Calls (Streams (Open index))) = address_at s index
asked_by s net act = None

-- the node's user asks for a connection, and an end is made
pub record AsksFor {A : Type 0} (c : Change A) : Type 0 where
  pub id : ℕ
  pub asked : Address
  pub act : asked_by c.session c.at.net c.act ≡ Some asked
  pub report : c.report ≡ report.Streams (adsp_report.Opening id)
  pub streams : c.now ≡ begun c.event c.at id false asked ∷ c.part

-- a request comes, and listening makes an end
pub record Answers {A : Type 0} (c : Change A) : Type 0 where
  pub datagram : ℕ
  pub id : ℕ
  pub request : Sent
  pub act : c.act ≡ Gets datagram
  pub report : c.report ≡ report.Streams (adsp_report.Made id)
  pub came : packet_at c.sent datagram ≡ Some request
  pub streams : c.now ≡ begun c.event c.at id true request.from ∷ c.part

-- an end opens, and has a peer from then on
pub record Opens {A : Type 0} (c : Change A) : Type 0 where
  pub datagram : ℕ
  pub id : ℕ
  pub act : c.act ≡ Gets datagram
  pub report : c.report ≡ report.Streams (adsp_report.Opened id)
  pub opens : OpensWith c.part c.now c.at id

-- the user of an end writes: so many of the items are taken
pub record Writes {A : Type 0} (c : Change A) : Type 0 where
  pub id : ℕ
  pub items : List Item
  pub count : ℕ
  pub act : c.act ≡ Calls (Streams (Write id items))
  pub report : c.report ≡ report.Streams (adsp_report.Wrote count)
  pub stands : HasEnd c id
  pub fits : count ≤ length items
  pub streams : c.now ≡ with_deed c.at id (WroteItems (take count items)) c.part

-- the user of an end reads: at most so many items come
pub record Reads {A : Type 0} (c : Change A) : Type 0 where
  pub id : ℕ
  pub count : ℕ
  pub items : List Item
  pub act : c.act ≡ Calls (Streams (Read id count))
  pub report : c.report ≡ report.Streams (adsp_report.Read items)
  pub stands : HasEnd c id
  pub fits : length items ≤ count
  pub streams : c.now ≡ with_deed c.at id (ReadItems items) c.part

-- the user of an end resets its stream
pub record Resets {A : Type 0} (c : Change A) : Type 0 where
  pub id : ℕ
  pub act : c.act ≡ Calls (Streams (Reset id))
  pub report : c.report ≡ report.Streams adsp_report.Reset
  pub stands : HasEnd c id
  pub streams : c.now ≡ with_deed c.at id GaveUp c.part

-- the kinds of steps of a node
pub data IsStep {A : Type 0} (c : Change A) : Type 0 where
  Plain : IsPlain c → IsStep c
  HasAsked : AsksFor c → IsStep c
  HasAnswered : Answers c → IsStep c
  HasOpened : Opens c → IsStep c
  HasWritten : Writes c → IsStep c
  HasRead : Reads c → IsStep c
  HasReset : Resets c → IsStep c

-- What a datagram of ADSP does to the socket of a node for streams.
use Rattle.std.specs.Prelude.{MatchBool, ◌≡◌, ℕ, ◌==◌, true, false, List, Some, None, ◌⊎◌}
use Rattle.at_ddp.specs.Datagram.{Content as Datagram}
use Rattle.at_ddp.specs.declared.address.Address.{Address}
use Rattle.at_adsp_frame.specs.Fault.{IsFirstFault, number_of}
use Rattle.at_adsp_frame.specs.Segments.{Content, Open, Spells}
use Rattle.at_adsp_frame.specs.declared.fault.AdspFault.{AdspFault}
use Rattle.at_adsp_frame.specs.declared.segment.OpenKind.TheVariants.{Request}
use Rattle.at_adsp_end.specs.Positions.{wire}
use Rattle.at_adsp_ends.specs.Openings.{sender_of}
use Rattle.at_adsp_ends.specs.Receiving.{received}
use Rattle.at_adsp_ends.specs.Tables.{EndTable, by_remote, next_id}
use Rattle.at_event.specs.Outcomes.{Outcome, idle}
use Rattle.at_event.specs.declared.Report.TheVariants as report
use Rattle.at_event.specs.declared.seat.Seat.{Seat}
use Rattle.at_stream_socket.specs.Sockets.{answered, told_by}

-- a segment came from this address
abbrev pub segment_heard : {A : Type 0} → Seat → EndTable → Address → Content → Outcome A EndTable
segment_heard s t from segment = answered s told_by (received wire t from segment)

-- the data is a segment, and this is what it does
pub record HearsSegment {A : Type 0} (s : Seat) (t : EndTable) (d : Datagram) (o : Outcome A EndTable) : Type 0 where
  pub segment : Content
  pub spelled : Spells d.data_ segment
  pub outcome : o ≡ segment_heard s t d.from segment

-- the data is no segment
pub record HearsAdspFault {A : Type 0} (t : EndTable) (bytes : List ℕ) (o : Outcome A EndTable) : Type 0 where
  pub fault : AdspFault
  pub number : ℕ
  pub first : IsFirstFault fault bytes
  pub numbered : number_of fault ≡ Some number
  pub outcome : o ≡ idle t (report.Refused number)

-- what a datagram does; at another socket it is ignored, whatever its data
abbrev pub HearsStreams : {A : Type 0} → Seat → EndTable → Datagram → Outcome A EndTable → Type 0
HearsStreams s t d o =
    MatchBool (d.to.socket == 130)
    (HearsSegment s t d o ⊎ HearsAdspFault t d.data_ o)
    (o ≡ idle t report.Ignored)

-- A segment from an address requests a connection, and an end is made for it under this identifier: such requests are
-- answered, no end here is connected to the one that asks, and the identifier is the next.
pub record Requests (t : EndTable) (from : Address) (s : Content) (id : ℕ) : Type 0 where
  pub dest : ℕ
  pub asks : s.body ≡ Open Request dest
  pub named : (s.source == 0) ≡ false
  pub apart : by_remote t (sender_of from s) ≡ None
  pub listens : t.listening ≡ true
  pub next : next_id t ≡ Some id

-- the datagram has such a request
pub record Makes (t : EndTable) (d : Datagram) (id : ℕ) : Type 0 where
  pub socket : (d.to.socket == 130) ≡ true
  pub segment : Content
  pub spelled : Spells d.data_ segment
  pub makes : Requests t d.from segment id

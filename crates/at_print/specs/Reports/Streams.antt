-- What is printed of the reports and timers of streams, and of the data of ADSP's datagrams.
use Rattle.std.specs.Prelude.{ℕ, false, List, ◌++◌, codes}
use Rattle.std.specs.Fmt.{decimal}
use Rattle.at_adsp_frame.specs.Fault.{IsFirstFault, number_of}
use Rattle.at_adsp_frame.specs.Segments.{Content, Spells}
use Rattle.at_adsp_frame.specs.declared.fault.AdspFault.{AdspFault}
use Rattle.at_event.specs.declared.streams.StreamReport.{StreamReport}
use Rattle.at_event.specs.declared.streams.StreamReport.TheVariants as report
use Rattle.at_event.specs.declared.streams.StreamTimer.{StreamTimer}
use Rattle.at_event.specs.declared.streams.StreamTimer.TheVariants.{Probe, Resend}
use Rattle.at_print.specs.Items.{items_text}
use Rattle.at_print.specs.Refusals.{refusal_line}
use Rattle.at_print.specs.SegmentLines.{segment_line}

-- a report of streams
abbrev pub stream_text : {A : Type 0} → StreamReport A → List ℕ
stream_text report.ListenSet = codes "done"
stream_text (report.Opening id) = codes "opening " ++ decimal id
stream_text (report.Made id) = codes "made " ++ decimal id
stream_text (report.Opened id) = codes "opened " ++ decimal id
stream_text report.Turned = codes "turned"
stream_text (report.Denied id) = codes "denied " ++ decimal id
stream_text (report.Wrote count) = codes "wrote " ++ decimal count
stream_text (report.Read items) = codes "read" ++ items_text false items
stream_text report.Reset = codes "done"
stream_text (report.Heard id count) = codes "heard " ++ (decimal id ++ (codes " " ++ decimal count))
stream_text (report.Dropped id) = codes "dropped " ++ decimal id
stream_text (report.Closed id) = codes "closed " ++ decimal id
stream_text (report.Freed id) = codes "freed " ++ decimal id
stream_text report.Idle = codes "idle"

-- a timer of the end of a stream in words
abbrev pub stream_timer_text : StreamTimer → List ℕ
stream_timer_text (Resend id) = codes "resend " ++ decimal id
stream_timer_text (Probe id) = codes "probe " ++ decimal id

-- the data is an ADSP segment
abbrev pub IsSegment : List ℕ → Type 0
IsSegment bytes = (s : Content) × Spells bytes s

-- what is printed of the data of ADSP's datagrams: the segment, or the first fault by its number
pub data SegmentText (bytes : List ℕ) : List ℕ → Type 0 where
  Parsed : (segment : Content) → Spells bytes segment → SegmentText bytes (segment_line segment)
  Unparsed : (fault : AdspFault) → IsFirstFault fault bytes
      → SegmentText bytes (refusal_line (number_of fault))

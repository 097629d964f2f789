-- The socket of a node for streams, 130, and what comes of its ends (Inside AppleTalk, ADSP).
use Rattle.std.specs.Prelude.{ℕ, List}
use Rattle.at_ddp.specs.declared.address.Address.{Address}
use Rattle.at_ddp.specs.Protocols.{adsp_kind}
use Rattle.at_adsp_frame.specs.Segments.{Content}
use Rattle.at_adsp_end.specs.Ends.{spelled_all}
use Rattle.at_adsp_end.specs.declared.item.Item.{Item}
use Rattle.at_adsp_end.specs.declared.change.EndChange.{EndChange}
use Rattle.at_adsp_end.specs.declared.change.EndChange.TheVariants as step
use Rattle.at_adsp_ends.specs.Tables.{Done, EndTable}
use Rattle.at_event.specs.Outcomes.{Outcome, Outgoing, sent_by}
use Rattle.at_event.specs.declared.Report.{Report}
use Rattle.at_event.specs.declared.Report.TheVariants as report
use Rattle.at_event.specs.declared.streams.StreamReport.TheVariants as adsp_report
use Rattle.at_event.specs.declared.seat.Seat.{Seat}

abbrev pub streams_at : ℕ → ℕ → Address
streams_at net number = record { net = net; node = number; socket = 130 }

-- what the socket sends
abbrev pub sent_of : Seat → List (Address × Content) → List Outgoing
sent_of s sent = sent_by (streams_at s.net s.number) adsp_kind (spelled_all sent)

-- the report of a step of an end
abbrev pub told_by : {A : Type 0} → EndChange → Report A
told_by step.Ignored = report.Ignored
told_by (step.Made id) = report.Streams (adsp_report.Made id)
told_by (step.Opened id) = report.Streams (adsp_report.Opened id)
told_by step.Turned = report.Streams adsp_report.Turned
told_by (step.Denied id) = report.Streams (adsp_report.Denied id)
told_by step.Again = report.Again
told_by step.Idle = report.Streams adsp_report.Idle
told_by (step.Heard id items) = report.Streams (adsp_report.Heard id items)
told_by (step.Dropped id) = report.Streams (adsp_report.Dropped id)
told_by (step.Closed id) = report.Streams (adsp_report.Closed id)
told_by (step.Freed id) = report.Streams (adsp_report.Freed id)

-- the reports of a call that began a connection, wrote, or read
abbrev pub told_opening : {A : Type 0} → ℕ → Report A
told_opening id = report.Streams (adsp_report.Opening id)

abbrev pub told_wrote : {A : Type 0} → ℕ → Report A
told_wrote count = report.Streams (adsp_report.Wrote count)

abbrev pub told_read : {A : Type 0} → List Item → Report A
told_read items = report.Streams (adsp_report.Read items)

-- what came of a call or a segment, with the report of its answer
abbrev pub answered : {A X : Type 0} → Seat → (X → Report A) → Done X → Outcome A EndTable
answered s told d = record { report = told d.answer; state = d.after; out = sent_of s d.sent }

-- What is printed of a report, of a timer, of a datagram and of its data, a row a protocol.
use Rattle.std.specs.Prelude.{MatchBool, ◌≡◌, ◌==◌, ℕ, List, ◌++◌, codes}
use Rattle.std.specs.Fmt.{decimal}
use Rattle.at_event.specs.declared.Report.{Report}
use Rattle.at_event.specs.declared.Report.TheVariants as report
use Rattle.at_event.specs.declared.Timer.{Timer}
use Rattle.at_event.specs.declared.Timer.TheVariants as timer
use Rattle.at_print.specs.Lines.{hex_text, raw_line}
use Rattle.at_print.specs.Reports.Names.{IsNames, NamesText, name_report_text, name_timer_text}
use Rattle.at_print.specs.Reports.Streams.{IsSegment, SegmentText, stream_text, stream_timer_text}
use Rattle.at_print.specs.Reports.Transactions.{IsPacket, PacketText}
use Rattle.at_print.specs.Reports.Transactions.{transaction_text, transaction_text_at, transaction_timer_text}
use Rattle.at_print.specs.Reports.Zones.{zone_report_text}
pub mod Names
pub mod Streams
pub mod Transactions
pub mod Zones

-- a report in words
abbrev pub report_text : {A : Type 0} → Report A → List ℕ
report_text (report.Transactions r) = transaction_text r
report_text (report.Zones r) = zone_report_text r
report_text (report.Names r) = name_report_text r
report_text (report.Streams r) = stream_text r
report_text report.Picked = codes "done"
report_text report.Again = codes "again"
report_text report.Ignored = codes "ignored"
report_text (report.Refused number) = codes "refused " ++ decimal number
report_text report.NoMemory = codes "nomemory"

-- the same on a network, of which alone a requester is named by its node alone
abbrev pub report_text_at : {A : Type 0} → ℕ → Report A → List ℕ
report_text_at net (report.Transactions r) = transaction_text_at net r
report_text_at net other = report_text other

-- a timer in words; a requester of this network is named by its node alone
abbrev pub timer_text : ℕ → Timer → List ℕ
timer_text net (timer.Transactions it) = transaction_timer_text net it
timer_text net (timer.Names it) = name_timer_text it
timer_text net (timer.Streams it) = stream_timer_text it

-- the line of an event by its number, and of what it reported
abbrev pub event_line : {A : Type 0} → ℕ → Report A → List ℕ
event_line at r = (decimal at ++ codes " ") ++ (report_text r ++ codes "\n")

abbrev pub event_line_at : {A : Type 0} → ℕ → ℕ → Report A → List ℕ
event_line_at net at r = (decimal at ++ codes " ") ++ (report_text_at net r ++ codes "\n")

-- the line of a timer
abbrev pub timer_line : ℕ → Timer → List ℕ
timer_line net t = codes "timer " ++ (timer_text net t ++ codes "\n")

-- the line of a datagram: its number, the node that it goes to, and its bytes
abbrev pub datagram_line : ℕ → ℕ → List ℕ → List ℕ
datagram_line number to bytes =
    (codes "sent " ++ (decimal number ++ (codes " " ++ (decimal to ++ codes " ")))) ++ (hex_text bytes ++ codes "\n")

-- The data of a datagram of this type can be read. NBP is number 2, ATP 3 and ADSP 7; the data of any other type is
-- printed as it is.
abbrev pub IsReadable : ℕ → List ℕ → Type 0
IsReadable kind bytes =
    MatchBool (kind == 2) (IsNames bytes)
    (MatchBool (kind == 3) (IsPacket bytes) (MatchBool (kind == 7) (IsSegment bytes) (Unit {0})))

-- what is printed of the data of any datagram
abbrev pub DataText : ℕ → List ℕ → List ℕ → Type 0
DataText kind bytes text =
    MatchBool (kind == 2) (NamesText bytes text)
    (MatchBool (kind == 3) (PacketText bytes text)
    (MatchBool (kind == 7) (SegmentText bytes text) (text ≡ raw_line bytes)))

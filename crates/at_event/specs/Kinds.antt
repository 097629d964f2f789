-- What is known of calls, timers, reports and refusals by their protocols, and of their words: a row a protocol.
use Rattle.std.specs.Prelude.{ℕ, Bool, true, false, List, ◌++◌, Option, Some, codes}
use Rattle.at_ddp.specs.Fault as ddp
use Rattle.at_atp_frame.specs.Fault as atp
use Rattle.at_nbp.specs.Fault as nbp
use Rattle.at_zip.specs.Fault as zip
use Rattle.at_adsp_frame.specs.Fault as adsp
use Rattle.at_adsp_end.specs.Fault as ends
use Rattle.at_event.specs.Faults as nodes
use Rattle.at_event.specs.Kinds.Names.{IsNameCall, name_sentence, names_take_memory}
use Rattle.at_event.specs.Kinds.Sessions.{IsSessionCall, session_sentence}
use Rattle.at_event.specs.Kinds.Streams.{IsStreamCall, stream_sentence, streams_take_memory}
use Rattle.at_event.specs.Kinds.Transactions.{IsTransactionCall, transaction_sentence, transactions_take_memory}
use Rattle.at_event.specs.Kinds.Zones.{IsZoneCall, zone_sentence, zones_take_memory}
use Rattle.at_event.specs.declared.Call.{Call}
use Rattle.at_event.specs.declared.Call.TheVariants as call
use Rattle.at_event.specs.declared.EventRule.{EventRule}
use Rattle.at_event.specs.declared.EventRule.TheVariants as rule
use Rattle.at_event.specs.declared.Reason.{Reason}
use Rattle.at_event.specs.declared.Reason.TheVariants as reason
use Rattle.at_event.specs.declared.Report.{Report}
use Rattle.at_event.specs.declared.Report.TheVariants as report
use Rattle.at_event.specs.declared.Timer.{Timer}
use Rattle.at_event.specs.declared.Timer.TheVariants as timer
pub mod Names
pub mod Sessions
pub mod Streams
pub mod Transactions
pub mod Zones

-- the parts of a node, its user's session, and nobody
pub data Speaker : Type 0 where
  Nobody : Speaker
  Session : Speaker
  Atp : Speaker
  Nbp : Speaker
  Adsp : Speaker

abbrev pub speaker_of_call : {A : Type 0} → Call A → Speaker
speaker_of_call (call.Transactions it) = Atp
speaker_of_call (call.Zones it) = Atp
speaker_of_call (call.Names it) = Nbp
speaker_of_call (call.Streams it) = Adsp
speaker_of_call (call.Session it) = Session

abbrev pub speaker_of_timer : Timer → Speaker
speaker_of_timer (timer.Transactions it) = Atp
speaker_of_timer (timer.Names it) = Nbp
speaker_of_timer (timer.Streams it) = Adsp

-- which part alone reports this; nobody, if several do
abbrev pub reporter_of : {A : Type 0} → Report A → Speaker
reporter_of report.Picked = Session
reporter_of (report.Transactions it) = Atp
reporter_of (report.Zones it) = Atp
reporter_of (report.Names it) = Nbp
reporter_of (report.Streams it) = Adsp
reporter_of other = Nobody

-- the parts of a call are in the range of their types
abbrev pub IsCall : {A : Type 0} → Call A → Type 0
IsCall (call.Transactions it) = IsTransactionCall it
IsCall (call.Zones it) = IsZoneCall it
IsCall (call.Names it) = IsNameCall it
IsCall (call.Streams it) = IsStreamCall it
IsCall (call.Session it) = IsSessionCall it

-- can an event with this report run out of memory? A refusal cannot, and neither can the picking of a zone. What is
-- ignored has no effect, and takes no memory either.
abbrev pub takes_memory : {A : Type 0} → Report A → Bool
takes_memory (report.Refused number) = false
takes_memory report.Ignored = false
takes_memory report.Picked = false
takes_memory (report.Transactions it) = transactions_take_memory it
takes_memory (report.Zones it) = zones_take_memory it
takes_memory (report.Names it) = names_take_memory it
takes_memory (report.Streams it) = streams_take_memory it
takes_memory other = true

-- the number of a reason, by which it is reported; want of memory has none
abbrev pub number_of : Reason → Option ℕ
number_of (reason.OfDatagrams fault) = ddp.number_of fault
number_of (reason.OfTransactions fault) = atp.number_of fault
number_of (reason.OfNames fault) = nbp.number_of fault
number_of (reason.OfZones fault) = zip.number_of fault
number_of (reason.OfSegments fault) = adsp.number_of fault
number_of (reason.OfStreams fault) = ends.number_of fault
number_of (reason.OfNodes fault) = Some (nodes.number_of fault)

-- the sentence that tells a person how the line of a call or of a timer must be: all calls, all timers, or one's words
abbrev pub event_sentence : EventRule → List ℕ
event_sentence rule.Call =
    codes "`call` takes a node and `zones`, `setzones`, `localzones`, `setlocal`, `ask`, `answer`, `pick`, "
    ++ codes "`find`, `claim`, `finish`, `register`, `unregister`, `open`, `listen`, `connect`, `write`, `read`, "
    ++ codes "`reset` or `close`, as in \"call 5 zones\""
event_sentence rule.Timer =
    codes "`timer` takes a node and `retry`, `release`, `lookup`, `resend` or `probe`, as in \"timer 5 retry "
    ++ codes "0\""
event_sentence (rule.Transactions it) = transaction_sentence it
event_sentence (rule.Zones it) = zone_sentence it
event_sentence (rule.Names it) = name_sentence it
event_sentence (rule.Streams it) = stream_sentence it
event_sentence (rule.Session it) = session_sentence it

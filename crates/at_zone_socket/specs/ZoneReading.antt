-- How a node reads a zone table, page by page (Inside AppleTalk, ZIP, "GetZoneList", "GetLocalZones").
use Rattle.std.specs.Prelude.{MatchBool, ◌≡◌, ℕ, ◌+◌, ◌==◌, ◌&&◌, nat_lt, Bool, true, false, List}
use Rattle.std.specs.Prelude.{[]}
use Rattle.std.specs.Prelude.{◌++◌, length}
use Rattle.std.specs.Prelude.{Option, Some, None, ◌⊎◌}
use Rattle.at_ddp.specs.declared.address.Address.{Address}
use Rattle.at_atp_frame.specs.Fault as atp
use Rattle.at_atp_frame.specs.Frames.{Content, number_of as tid_of}
use Rattle.at_atp_frame.specs.Packets.{Packet}
use Rattle.at_atp_requester.specs.Requests.{Transaction, Requests, Heard, next_number, beginning, finishes}
use Rattle.at_atp_frame.specs.declared.fault.AtpFault.TheVariants.{Full}
use Rattle.at_zip.specs.Fault as zip
use Rattle.at_zip.specs.Page as pages
use Rattle.at_zip.specs.Reading.{place_after}
use Rattle.at_zip.specs.Request.{request_user}
use Rattle.at_zip.specs.declared.request.TableChoice.{TableChoice}
use Rattle.at_zip.specs.declared.request.TableChoice.TheVariants.{All}
use Rattle.at_zip.specs.declared.fault.ZipFault.{ZipFault}
use Rattle.at_zip.specs.declared.fault.ZipFault.TheVariants.{TooManyZones}
use Rattle.at_event.specs.declared.Report.{Report}
use Rattle.at_event.specs.declared.Report.TheVariants as report
use Rattle.at_event.specs.declared.transactions.TransactionReport.TheVariants as atp_report
use Rattle.at_event.specs.declared.zones.ZoneReport.TheVariants as zip_report
use Rattle.at_event.specs.declared.fault.NodeFault.TheVariants.{NoRouter, StillReading}
use Rattle.at_event.specs.declared.seat.Seat.{Seat}
use Rattle.at_transaction_socket.specs.TransactionSockets.{asks, after_heard}
use Rattle.at_zone_socket.specs.AtpParts.{AtpState, with_reading, with_zones}
use Rattle.at_zone_socket.specs.ZoneSockets.{Reading, ZoneState, zones_at}
use Rattle.at_event.specs.Faults.{number_of}
use Rattle.at_event.specs.Outcomes.{Outcome, idle, over, refused_as}

-- the transaction by which a reading of this table asks for the page after the names that it has: one packet, at least
-- once, with three retries
abbrev pub page_transaction : Address → TableChoice → List (List ℕ) → ℕ → Transaction
page_transaction to which names tid = beginning tid to (request_user which (place_after names)) [] 1 false 3

-- ---- the call

abbrev pub reading_begins : {A : Type 0} → Seat → AtpState → TableChoice → ℕ → Option ℕ → Outcome A AtpState
reading_begins s a which router None = idle a (refused_as (atp.number_of Full))
reading_begins s a which router (Some tid) =
    over (with_reading a (Some (record { which = which; tid = tid; names = [] })))
    (asks s a.transactions (page_transaction (zones_at s.net router) which [] tid))

-- without a router nothing can be read, and a node reads one table at a time
abbrev pub zones_called : {A : Type 0} → Seat → AtpState → TableChoice → Option ℕ → Option Reading → Outcome A AtpState
zones_called s a which None reading = idle a (report.Refused (number_of NoRouter))
zones_called s a which (Some router) (Some r) = idle a (report.Refused (number_of StillReading))
zones_called s a which (Some router) None = reading_begins s a which router (next_number a.transactions.requester)

-- ---- the transaction that reads

-- is this the transaction that reads a zone table?
abbrev pub is_reading : Option Reading → ℕ → Bool
is_reading None tid = false
is_reading (Some r) tid = r.tid == tid

-- which table is read
abbrev pub table_read : Option Reading → TableChoice
table_read None = All
table_read (Some r) = r.which

-- the names of the pages so far
abbrev pub names_read : Option Reading → List (List ℕ)
names_read None = []
names_read (Some r) = r.names

-- is this packet from an address the page that a reading asked for? It ends the transaction that reads.
abbrev pub is_page : (A : Type 0) → AtpState → Address → Content → Bool
is_page A a from f = is_reading a.zones.reading (tid_of f) && finishes A a.transactions.requester from f

-- a transaction ended without an answer; if it read a zone table, the reading ends
abbrev pub reading_fails : {A : Type 0} → ZoneState → ℕ → Bool → Outcome A ZoneState
reading_fails z tid true =
    record { report = report.Zones zip_report.Unanswered; state = record z { reading = None }; out = [] }
reading_fails z tid false = record { report = report.Transactions (atp_report.Failed tid); state = z; out = [] }

-- and the requester becomes this
abbrev pub after_failing : {A : Type 0} → AtpState → ℕ → Requests → Bool → Outcome A AtpState
after_failing a tid after reads =
    over (with_zones (record a { transactions = record a.transactions { requester = after } }))
    (reading_fails a.zones tid reads)

-- ---- the page

-- the report of a page that is refused, by the number of its fault
abbrev pub faulted_as : {A : Type 0} → Option ℕ → Report A
faulted_as None = report.NoMemory
faulted_as (Some number) = report.Zones (zip_report.Fault number)

-- the reading ends by its packet, of which this is reported
abbrev pub reading_ends : {A : Type 0} → Seat → AtpState → Heard A → Report A → Outcome A AtpState
reading_ends s a h r = over (with_reading a None) (after_heard s a.transactions h r)

-- the same responder is asked for the page after these names
pub record AsksOn {A : Type 0} (s : Seat) (a : AtpState) (h : Heard A) (from : Address) (names : List (List ℕ))
    (o : Outcome A AtpState) : Type 0 where
  pub tid : ℕ
  pub drawn : next_number h.after ≡ Some tid
  pub outcome : o
      ≡ over (with_reading a (Some (record { which = table_read a.zones.reading; tid = tid; names = names })))
      (asks s (record a.transactions { requester = h.after })
      (page_transaction from (table_read a.zones.reading) names tid))

-- What a page does to a reading with these names. With too many names the reading ends, with the last page it has the
-- whole table, and else it goes on.
abbrev pub TakesPage : {A : Type 0} → Seat → AtpState → Heard A → Address → List (List ℕ) → pages.Page
    → Outcome A AtpState → Type 0
TakesPage s a h from names p o =
    MatchBool (nat_lt 1024 (length names + length p.names))
    (o ≡ reading_ends s a h (faulted_as (zip.number_of TooManyZones)))
    (MatchBool p.last
    (o ≡ reading_ends s a h (report.Zones (zip_report.List (table_read a.zones.reading) (names ++ p.names))))
    (AsksOn s a h from (names ++ p.names) o))

pub record HasPage {A : Type 0} (s : Seat) (a : AtpState) (h : Heard A) (from : Address) (names : List (List ℕ))
    (p : Packet) (o : Outcome A AtpState) : Type 0 where
  pub page : pages.Page
  pub spelled : pages.Spells p.user p.data_ page
  pub outcome : TakesPage s a h from names page o

pub record HasPageFault {A : Type 0} (s : Seat) (a : AtpState) (h : Heard A) (p : Packet)
    (o : Outcome A AtpState) : Type 0 where
  pub fault : ZipFault
  pub number : ℕ
  pub first : zip.IsFirstFault fault p.user p.data_
  pub numbered : zip.number_of fault ≡ Some number
  pub outcome : o ≡ reading_ends s a h (report.Zones (zip_report.Fault number))

-- what the packet that was asked for does to a reading with these names: its page is taken, or its fault ends the
-- reading
abbrev pub ReadsPage : {A : Type 0} → Seat → AtpState → Heard A → Address → List (List ℕ) → Packet
    → Outcome A AtpState → Type 0
ReadsPage s a h from names p o = HasPage s a h from names p o ⊎ HasPageFault s a h p o

-- What a step of a node is in words of transactions (Inside AppleTalk, ATP, "Transactions", and ZIP, "GetZoneList",
-- "GetLocalZones"). Packets, records, bitmaps and retries play no part.
use Rattle.std.specs.Prelude.{◌≡◌, ℕ, ◌+◌, ◌<◌, ◌≤◌, ◌==◌, Bool, true, false, List, [], ◌∷◌, ◌++◌, length, Option, Some}
use Rattle.std.specs.Prelude.{None}
use Rattle.at_ddp.specs.declared.address.Address.{Address}
use Rattle.at_atp_frame.specs.Packets.{Packet}
use Rattle.at_atp_responder.specs.declared.reception.Key.{Key}
use Rattle.at_atp.specs.Transactions.{Transaction, Asked, transaction_of, answered, IsPart, IsResponse}
use Rattle.at_zip.specs.Fault.{IsFirstFault}
use Rattle.at_zip.specs.Page.{Page, Spells}
use Rattle.at_zip.specs.Reading.{place_after}
use Rattle.at_zip.specs.Request.{RequestSpells, request_user}
use Rattle.at_zip.specs.Zones.{IsTable}
use Rattle.at_zip.specs.Tables.{Tables, table_of, with_table}
use Rattle.at_zip.specs.declared.request.TableChoice.{TableChoice}
use Rattle.at_zip.specs.declared.fault.ZipFault.{ZipFault}
use Rattle.at_zone_socket.specs.AtpParts.{AtpState}
use Rattle.at_zone_socket.specs.ZoneSockets.{Reading, zones_at}
use Rattle.at_transaction_socket.specs.TransactionSockets.{asking, serving}
use Rattle.at_zone_socket.specs.ZoneSocket.{page_packet}
use Rattle.at_event.specs.declared.Call.TheVariants.{Transactions, Zones}
use Rattle.at_event.specs.declared.transactions.TransactionCall.TheVariants.{Ask, Answer}
use Rattle.at_event.specs.declared.zones.ZoneCall.TheVariants as zone
use Rattle.at_event.specs.declared.Report.{Report}
use Rattle.at_event.specs.declared.Report.TheVariants as report
use Rattle.at_event.specs.declared.transactions.TransactionReport.TheVariants as atp_report
use Rattle.at_event.specs.declared.zones.ZoneReport.TheVariants as zip_report
use Rattle.at_event.specs.declared.Timer.{Timer}
use Rattle.at_event.specs.declared.Timer.TheVariants as timer
use Rattle.at_event.specs.declared.transactions.TransactionTimer.TheVariants as atp_timer
use Rattle.at_steps.specs.Acts.{Act, Calls, Fires, Gets}

-- a node's transaction, without answers
abbrev pub new_transaction : ℕ → ℕ → Address → List ℕ → List ℕ → ℕ → Bool → ℕ → Transaction
new_transaction net node responder user bytes wanted xo tid = record {
  requester = asking net node;
  tid = tid;
  responder = responder;
  user = user;
  data_ = bytes;
  wanted = wanted;
  xo = xo;
  answers = [];
}

-- a node asks for the page of a table after these names: one packet, at least once
abbrev pub page_asked : ℕ → ℕ → Address → TableChoice → List (List ℕ) → ℕ → Transaction
page_asked net node server which names tid =
    new_transaction net node server (request_user which (place_after names)) [] 1 false tid

-- the page of a table from a place on, as the one packet of an answer
abbrev pub page_answer : List (List ℕ) → ℕ → List Packet
page_answer table start = page_packet table start ∷ []

-- a report that says nothing of transactions and of the zone tables
abbrev pub is_plain : {A : Type 0} → Act A → Report A → Bool
is_plain act (report.Refused number) = true
is_plain act report.NoMemory = true
is_plain (Gets datagram) report.Ignored = true
is_plain (Gets datagram) report.Again = true
is_plain (Gets datagram) (report.Transactions atp_report.Kept) = true
is_plain (Gets datagram) (report.Transactions atp_report.Released) = true
is_plain (Fires time) report.Again = true
is_plain (Fires time) (report.Transactions (atp_report.Failed tid)) = true
is_plain (Fires (timer.Transactions (atp_timer.Release own key))) (report.Transactions atp_report.Expired) = true
is_plain act r = false

-- the transactions before and after, the part before and after, what happened, and its report
pub record Change (A : Type 0) : Type 0 where
  pub asked : List Transaction
  pub now_asked : List Transaction
  pub part : AtpState
  pub now : AtpState
  pub act : Act A
  pub report : Report A

-- nothing but what the report says
pub record IsPlain {A : Type 0} (c : Change A) : Type 0 where
  pub plain : is_plain c.act c.report ≡ true
  pub asked : c.now_asked ≡ c.asked
  pub reading : c.now.zones.reading ≡ c.part.zones.reading

-- the node's user begins a transaction, which is not the one that reads a zone table
pub record BeginsAsking {A : Type 0} (net number : ℕ) (c : Change A) : Type 0 where
  pub tid : ℕ
  pub node : ℕ
  pub socket : ℕ
  pub user : List ℕ
  pub bytes : List ℕ
  pub wanted : ℕ
  pub xo : Bool
  pub retries : ℕ
  pub act : c.act ≡ Calls (Transactions (Ask node socket user bytes wanted xo retries))
  pub report : c.report ≡ report.Transactions (atp_report.Begun tid)
  pub asked : c.now_asked
      ≡ new_transaction net number (record { net = net; node = node; socket = socket }) user bytes wanted xo tid
      ∷ c.asked
  pub reading : c.now.zones.reading ≡ c.part.zones.reading
  pub apart : (r : Reading) → c.part.zones.reading ≡ Some r → (tid == r.tid) ≡ false

-- a reading of a zone table begins: the node asks its router for the first page, one packet, at least once
pub record BeginsReading {A : Type 0} (net number : ℕ) (router : Option ℕ) (c : Change A) : Type 0 where
  pub which : TableChoice
  pub tid : ℕ
  pub server : ℕ
  pub is_router : router ≡ Some server
  pub act : c.act ≡ Calls (Zones (zone.Read which))
  pub report : c.report ≡ report.Transactions (atp_report.Begun tid)
  pub asked : c.now_asked ≡ page_asked net number (zones_at net server) which [] tid ∷ c.asked
  pub reading : c.now.zones.reading ≡ Some (record { which = which; tid = tid; names = [] })

-- the router gets another zone table in the place of one
pub record SetsTable {A : Type 0} (c : Change A) : Type 0 where
  pub which : TableChoice
  pub names : List (List ℕ)
  pub tables : Tables
  pub act : c.act ≡ Calls (Zones (zone.Set which names))
  pub report : c.report ≡ report.Zones zip_report.TableSet
  pub was : c.part.zones.tables ≡ Some tables
  pub becomes : c.now.zones.tables ≡ Some (with_table which names tables)
  pub is_table : IsTable names
  pub asked : c.now_asked ≡ c.asked
  pub reading : c.now.zones.reading ≡ c.part.zones.reading

-- the node's user answers the newest transaction of a requester under a number, which asked the node's service
pub record GivesAnswer {A : Type 0} (net number : ℕ) (c : Change A) : Type 0 where
  pub key : Key
  pub packets : List Packet
  pub count : ℕ
  pub act : c.act ≡ Calls (Transactions (Answer key packets))
  pub report : c.report ≡ report.Transactions (atp_report.Answered count)
  pub newest : Asked c.asked key.from key.tid (serving net number)
  pub few : count ≤ length packets
  pub asked : c.now_asked ≡ answered c.asked key.from key.tid packets
  pub reading : c.now.zones.reading ≡ c.part.zones.reading

-- the router answers the newest transaction of a requester under a number, which asked it for the page
-- of one of its tables from a place on
pub record ServesPage {A : Type 0} (net number : ℕ) (c : Change A) : Type 0 where
  pub datagram : ℕ
  pub count : ℕ
  pub act : c.act ≡ Gets datagram
  pub report : c.report ≡ report.Zones (zip_report.Served count)
  pub tables : Tables
  pub are_tables : c.part.zones.tables ≡ Some tables
  pub requester : Address
  pub tid : ℕ
  pub newest : Asked c.asked requester tid (zones_at net number)
  pub table : TableChoice
  pub start : ℕ
  pub asks_from : RequestSpells (newest.transaction).user table start
  pub one : count ≤ 1
  pub asked : c.now_asked ≡ answered c.asked requester tid (page_answer (table_of table tables) start)
  pub reading : c.now.zones.reading ≡ c.part.zones.reading

-- the service receives what the newest transaction of a requester under a number asks of it
pub record HandsUp {A : Type 0} (net number : ℕ) (c : Change A) : Type 0 where
  pub datagram : ℕ
  pub key : Key
  pub user : List ℕ
  pub bytes : List ℕ
  pub act : c.act ≡ Gets datagram
  pub report : c.report ≡ report.Transactions (atp_report.Asked key user bytes)
  pub newest : Asked c.asked key.from key.tid (serving net number)
  pub is_user : (newest.transaction).user ≡ user
  pub is_data : (newest.transaction).data_ ≡ bytes
  pub asked : c.now_asked ≡ c.asked
  pub reading : c.now.zones.reading ≡ c.part.zones.reading

-- the newest transaction of the node under a number ends with a response to it
pub record Finishes {A : Type 0} (net number : ℕ) (c : Change A) : Type 0 where
  pub datagram : ℕ
  pub tid : ℕ
  pub packets : List Packet
  pub act : c.act ≡ Gets datagram
  pub report : c.report ≡ report.Transactions (atp_report.Response tid packets)
  pub transaction : Transaction
  pub newest : transaction_of c.asked (asking net number) tid ≡ Some transaction
  pub response : IsResponse transaction packets
  pub asked : c.now_asked ≡ c.asked
  pub reading : c.now.zones.reading ≡ c.part.zones.reading

-- the packet that a reading asked for comes: it is of an answer to the newest transaction of its number
pub record ComesToReading {A : Type 0} (net number : ℕ) (c : Change A) : Type 0 where
  pub datagram : ℕ
  pub act : c.act ≡ Gets datagram
  pub read : Reading
  pub reads : c.part.zones.reading ≡ Some read
  pub from : Address
  pub newest : Asked c.asked (asking net number) read.tid from
  pub place : ℕ
  pub ends : Bool
  pub packet : Packet
  pub part : IsPart newest.transaction place ends packet

-- the packet has the last page: with it the list is whole
pub record TellsAll {A : Type 0} (which : TableChoice) (names : List (List ℕ)) (p : Packet)
    (r : Report A) : Type 0 where
  pub page : Page
  pub spelled : Spells p.user p.data_ page
  pub last : page.last ≡ true
  pub tells : r ≡ report.Zones (zip_report.List which (names ++ page.names))

-- with its page there would be too many names
pub record TellsTooMany {A : Type 0} (names : List (List ℕ)) (p : Packet) (r : Report A) : Type 0 where
  pub page : Page
  pub spelled : Spells p.user p.data_ page
  pub many : 1024 < length names + length page.names
  pub tells : r ≡ report.Zones (zip_report.Fault 34)

-- it has no page
pub record TellsFault {A : Type 0} (p : Packet) (r : Report A) : Type 0 where
  pub fault : ZipFault
  pub number : ℕ
  pub first : IsFirstFault fault p.user p.data_
  pub tells : r ≡ report.Zones (zip_report.Fault number)

-- how a reading of this table with these names ends by a packet
pub data Tells {A : Type 0} (which : TableChoice) (names : List (List ℕ)) (p : Packet) (r : Report A) : Type 0 where
  All : TellsAll which names p r → Tells which names p r
  TooMany : TellsTooMany names p r → Tells which names p r
  Faulty : TellsFault p r → Tells which names p r

-- the reading ends by its packet
pub record EndsReading {A : Type 0} (net number : ℕ) (c : Change A) : Type 0 where
  pub came : ComesToReading net number c
  pub tells : Tells (came.read).which (came.read).names came.packet c.report
  pub asked : c.now_asked ≡ c.asked
  pub reading : c.now.zones.reading ≡ None

-- the reading goes on: its packet has a page that is not the last, and the next one is asked for
pub record TurnsPage {A : Type 0} (net number : ℕ) (c : Change A) : Type 0 where
  pub came : ComesToReading net number c
  pub page : Page
  pub spelled : Spells (came.packet).user (came.packet).data_ page
  pub last : page.last ≡ false
  pub few : length (came.read).names + length page.names ≤ 1024
  pub tid : ℕ
  pub report : c.report ≡ report.Transactions (atp_report.Begun tid)
  pub asked : c.now_asked
      ≡ page_asked net number came.from (came.read).which ((came.read).names ++ page.names) tid ∷ c.asked
  pub reading : c.now.zones.reading
      ≡ Some (record { which = (came.read).which; tid = tid; names = (came.read).names ++ page.names })

-- the reading ends without an answer
pub record FailsReading {A : Type 0} (c : Change A) : Type 0 where
  pub time : Timer
  pub act : c.act ≡ Fires time
  pub report : c.report ≡ report.Zones zip_report.Unanswered
  pub read : Reading
  pub reads : c.part.zones.reading ≡ Some read
  pub asked : c.now_asked ≡ c.asked
  pub reading : c.now.zones.reading ≡ None

-- the kinds of steps of a node with this router
pub data IsStep {A : Type 0} (net number : ℕ) (router : Option ℕ) (c : Change A) : Type 0 where
  Plain : IsPlain c → IsStep net number router c
  Begins : BeginsAsking net number c → IsStep net number router c
  Reads : BeginsReading net number router c → IsStep net number router c
  Answers : GivesAnswer net number c → IsStep net number router c
  Serves : ServesPage net number c → IsStep net number router c
  Delivers : HandsUp net number c → IsStep net number router c
  Ends : Finishes net number c → IsStep net number router c
  Sets : SetsTable c → IsStep net number router c
  Turns : TurnsPage net number c → IsStep net number router c
  HasRead : EndsReading net number c → IsStep net number router c
  Fails : FailsReading c → IsStep net number router c

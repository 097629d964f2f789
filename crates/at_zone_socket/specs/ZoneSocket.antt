-- The router's zone socket: what its packets do (Inside AppleTalk, ZIP, "GetZoneList", "GetLocalZones").
use Rattle.std.specs.Prelude.{◌≡◌, ℕ, if◌then◌else◌, List, [], ◌∷◌, length, find, Option, Some, None, ◌⊎◌}
use Rattle.at_ddp.specs.declared.address.Address.{Address}
use Rattle.at_ddp.specs.Protocols.{atp_kind}
use Rattle.at_atp_frame.specs.Fault.{number_of}
use Rattle.at_atp_frame.specs.Frames.{Content, Request, Response, Release, spelled_all}
use Rattle.at_atp_frame.specs.Packets.{Packet}
use Rattle.at_atp_responder.specs.Records.{Received, is_key, received, finds_no_place, asked_for, after_answer}
use Rattle.at_atp_frame.specs.declared.fault.AtpFault.TheVariants.{Full}
use Rattle.at_atp_responder.specs.declared.reception.Key.{Key}
use Rattle.at_atp_responder.specs.declared.reception.Reception.{Reception}
use Rattle.at_atp_responder.specs.declared.reception.Reception.TheVariants as reception
use Rattle.at_zip.specs.Fault as zip
use Rattle.at_zip.specs.Page.{page_of, page_user, page_data}
use Rattle.at_zip.specs.Request.{RequestSpells}
use Rattle.at_zip.specs.Zones.{table_fault}
use Rattle.at_zip.specs.Tables.{Tables, table_of, with_table}
use Rattle.at_zip.specs.declared.request.TableChoice.{TableChoice}
use Rattle.at_zip.specs.declared.fault.ZipFault.{ZipFault}
use Rattle.at_event.specs.declared.Report.{Report}
use Rattle.at_event.specs.declared.Report.TheVariants as report
use Rattle.at_event.specs.declared.transactions.TransactionReport.TheVariants as atp_report
use Rattle.at_event.specs.declared.zones.ZoneReport.TheVariants as zip_report
use Rattle.at_event.specs.declared.fault.NodeFault.TheVariants.{NoRouter}
use Rattle.at_event.specs.declared.seat.Seat.{Seat}
use Rattle.at_zone_socket.specs.ZoneSockets.{ZoneState, zones_at}
use Rattle.at_event.specs.Faults as node
use Rattle.at_event.specs.Outcomes.{Outcome, idle, sent_by, refused_as}
use Rattle.at_transaction_socket.specs.Responders.{released_report}

-- ---- the call

abbrev pub table_set : {A : Type 0} → ZoneState → Tables → TableChoice → List (List ℕ) → Option ZipFault
    → Outcome A ZoneState
table_set a tables which names (Some fault) = idle a (refused_as (zip.number_of fault))
table_set a tables which names None = record {
  report = report.Zones zip_report.TableSet;
  state = record a { tables = Some (with_table which names tables) };
  out = [];
}

-- the router gets another zone table in the place of one; no other node has any
abbrev pub set_zones_called : {A : Type 0} → ZoneState → Option Tables → TableChoice → List (List ℕ)
    → Outcome A ZoneState
set_zones_called a None which names = idle a (report.Refused (node.number_of NoRouter))
set_zones_called a (Some tables) which names = table_set a tables which names (table_fault names)

-- ---- packets

-- a page as the one packet of an answer
abbrev pub page_packet : List (List ℕ) → ℕ → Packet
page_packet table start = record { user = page_user (page_of table start); data_ = page_data (page_of table start) }

-- a new request for the page from a place on is answered at once
abbrev pub zone_served : {A : Type 0} → Seat → ZoneState → Received → Key → Packet → Outcome A ZoneState
zone_served s a t key packet = record {
  report = report.Zones (zip_report.Served (length (asked_for (find (is_key key) t.after) key (packet ∷ []))));
  state = record a { zone_responder = after_answer t.after key (packet ∷ []) };
  out = sent_by (zones_at s.net s.number) atp_kind
      (spelled_all (asked_for (find (is_key key) t.after) key (packet ∷ [])));
}

abbrev pub zone_taken : {A : Type 0} → Seat → ZoneState → Received → Report A → Outcome A ZoneState
zone_taken s a t r = record {
  report = r;
  state = record a { zone_responder = t.after };
  out = sent_by (zones_at s.net s.number) atp_kind (spelled_all t.sent);
}

abbrev pub at_zones : {A : Type 0} → Seat → ZoneState → Received → Packet → Reception → Outcome A ZoneState
at_zones s a t packet reception.Ignored = zone_taken s a t report.Ignored
at_zones s a t packet (reception.Again count) = zone_taken s a t report.Again
at_zones s a t packet reception.Released = zone_taken s a t (report.Transactions atp_report.Released)
at_zones s a t packet (reception.New key) = zone_served s a t key packet

-- a request for the page of a table from a place on came
abbrev pub zone_asked : {A : Type 0} → Seat → ZoneState → Address → Content → List (List ℕ) → ℕ → Outcome A ZoneState
zone_asked s a from frame table start =
    if finds_no_place a.zone_responder from frame then idle a (refused_as (number_of Full))
    else at_zones s a (received a.zone_responder from frame) (page_packet table start)
    (received a.zone_responder from frame).reception

-- a release came for the router's zone socket
abbrev pub zone_released : {A : Type 0} → Seat → ZoneState → Received → Outcome A ZoneState
zone_released s a t = zone_taken s a t (released_report t.reception)

pub record AsksForPage {A : Type 0} (s : Seat) (a : ZoneState) (from : Address) (f : Content) (user : List ℕ)
    (tables : Tables) (o : Outcome A ZoneState) : Type 0 where
  pub which : TableChoice
  pub start : ℕ
  pub asks : RequestSpells user which start
  pub outcome : o ≡ zone_asked s a from f (table_of which tables) start

-- a packet came for the router's zone socket: only a request for a page and a release have an effect
abbrev pub AtZones : {A : Type 0} → Seat → ZoneState → Address → Tables → Content → Outcome A ZoneState → Type 0
AtZones s a from tables (Request mask xo timer tid user bytes) o =
    AsksForPage s a from (Request mask xo timer tid user bytes) user tables o
    ⊎ (((which : TableChoice) (start : ℕ) → ¬ RequestSpells user which start) × (o ≡ idle a report.Ignored))
AtZones s a from tables (Response place eom sts tid user bytes) o = o ≡ idle a report.Ignored
AtZones s a from tables (Release tid) o = o ≡ zone_released s a (received a.zone_responder from (Release tid))

-- What an event at a node and its report say of requests: which happening of the network of requesters and responders
-- they tell of (Inside AppleTalk, ATP, "At-least-once and exactly-once transactions").
use Rattle.std.specs.Prelude.{◌≡◌, ℕ, ◌&&◌, Bool, true, false, List, Option, Some, None}
use Rattle.at_ddp.specs.Address.{same_address}
use Rattle.at_ddp.specs.declared.address.Address.{Address}
use Rattle.at_atp_frame.specs.Frames.{Content, Request, number_of}
use Rattle.at_atp_frame.specs.Packets.{Packet}
use Rattle.at_atp_requester.specs.Requests.{heard}
use Rattle.at_atp_requester.specs.declared.progress.RequestProgress.TheVariants as step
use Rattle.at_atp_responder.specs.Once.{same_key}
use Rattle.at_atp_responder.specs.declared.reception.Key.{Key}
use Rattle.at_atp.specs.HandUps.{draws, is_handed_up, expires_there}
use Rattle.at_ddp.specs.Posts.{packet_at}
use Rattle.at_atp.specs.Network.{Network, Sent, Happening, Begins, Answers, Turns, Takes, Serves, is_fresh}
use Rattle.at_atp.specs.Network.{done}
use Rattle.at_atp.specs.Transactions.{answered}
use Rattle.at_zip.specs.Request.{RequestSpells}
use Rattle.at_zip.specs.Tables.{Tables, table_of}
use Rattle.at_zip.specs.declared.request.TableChoice.{TableChoice}
use Rattle.at_transaction_socket.specs.TransactionSockets.{asking}
use Rattle.at_event.specs.declared.Call.TheVariants.{Transactions, Zones}
use Rattle.at_event.specs.declared.transactions.TransactionCall.TheVariants.{Ask, Answer}
use Rattle.at_event.specs.declared.zones.ZoneCall.TheVariants as zone
use Rattle.at_event.specs.declared.Report.{Report}
use Rattle.at_event.specs.declared.Report.TheVariants as report
use Rattle.at_event.specs.declared.transactions.TransactionReport.TheVariants as atp_report
use Rattle.at_event.specs.declared.zones.ZoneReport.TheVariants as zip_report
use Rattle.at_event.specs.declared.Timer.TheVariants as timer
use Rattle.at_event.specs.declared.transactions.TransactionTimer.TheVariants as atp_timer
use Rattle.at_steps.specs.Acts.{Act, Calls, Fires, Gets}
use Rattle.at_steps.specs.AtpSteps.{page_answer}

-- ---- what an event at a node and its report say of a request

-- a transaction of the node began under the number of this key
abbrev pub began_under : {A : Type 0} → ℕ → ℕ → Act A → Report A → Key → Bool
began_under net number act (report.Transactions (atp_report.Begun tid)) key =
    same_key (record { from = asking net number; tid = tid }) key
began_under net number act r key = false

-- the release timer removed the record of this key at one of the node's responders
abbrev pub expired_at : {A : Type 0} → ℕ → ℕ → Act A → Report A → Address → Key → Bool
expired_at net number (Fires (timer.Transactions (atp_timer.Release own k))) (report.Transactions atp_report.Expired) at
    key =
    same_address (record { net = net; node = number; socket = own }) at
    && same_key k key
expired_at net number act r at key = false

-- the packet that came has this key
abbrev pub came_under : Option Sent → Key → Bool
came_under None key = false
came_under (Some s) key = same_key (record { from = s.from; tid = number_of s.packet }) key

-- the request of this key was delivered, to the node's service or to the router
abbrev pub handed_up_by : {A : Type 0} → List (Option Sent) → Act A → Report A → Key → Bool
handed_up_by sent (Gets datagram) (report.Transactions (atp_report.Asked k user bytes)) key = same_key k key
handed_up_by sent (Gets datagram) (report.Zones (zip_report.Served count)) key = came_under
    (packet_at sent datagram) key
handed_up_by sent act r key = false

-- is this an exactly-once request?
abbrev pub asks_once : {A : Type 0} → Act A → Bool
asks_once (Calls (Transactions (Ask k socket user bytes wanted xo retries))) = xo
asks_once act = false

-- how many packets does it ask for? one, if it reads a zone table
abbrev pub asks_for : {A : Type 0} → Act A → ℕ
asks_for (Calls (Transactions (Ask k socket user bytes wanted xo retries))) = wanted
asks_for (Calls (Zones (zone.Read which))) = 1
asks_for (Gets datagram) = 1
asks_for act = 0

-- ---- the happening that they tell of

-- the happening takes the datagram that comes
abbrev pub TakesIn : {A : Type 0} → Happening → Act A → Type 0
TakesIn (Takes datagram) act = act ≡ Gets datagram
TakesIn (Serves datagram packets) act = act ≡ Gets datagram
TakesIn (Turns datagram user retries) act = act ≡ Gets datagram
TakesIn h act = Unit {0}

abbrev pub BeginsAs : {A : Type 0} → Happening → Act A → Type 0
BeginsAs (Begins who to user bytes wanted xo retries) act = (asks_once act ≡ xo) × (asks_for act ≡ wanted)
BeginsAs (Turns datagram user retries) act = (asks_once act ≡ false) × (asks_for act ≡ 1)
BeginsAs h act = Unit {0}

-- a packet asks for the page of this table from this place on
abbrev pub AsksFrom : Content → TableChoice → ℕ → Type 0
AsksFrom (Request mask xo timer tid user bytes) table start = RequestSpells user table start
AsksFrom f table start = ⊥

-- these packets are the page that the datagram which came asks for: of which of the router's tables, and from which
-- place
pub record IsPageAsked (tables : Option Tables) (n : Network) (datagram : ℕ) (packets : List Packet) : Type 0 where
  pub has : Tables
  pub are_tables : tables ≡ Some has
  pub request : Sent
  pub was_sent : packet_at n.sent datagram ≡ Some request
  pub table : TableChoice
  pub start : ℕ
  pub asks_from : AsksFrom request.packet table start
  pub page : packets ≡ page_answer (table_of table has) start

-- a call gives an answer, or the router, which has these tables, answers what came by a page of one
abbrev pub AnswersAs : {A : Type 0} → Option Tables → Network → Happening → Act A → Report A → Type 0
AnswersAs tables n (Answers at key packets) act r =
    (count : ℕ) × (act ≡ Calls (Transactions (Answer key packets)))
    × (r ≡ report.Transactions (atp_report.Answered count))
AnswersAs tables n (Serves datagram packets) act r =
    (count : ℕ) × (act ≡ Gets datagram) × (r ≡ report.Zones (zip_report.Served count))
    × IsPageAsked tables n datagram packets
AnswersAs tables n h act r = Unit {0}

-- an answer that is reported joins its transaction: that of a call, or the router's to what came
abbrev pub Joins : {A : Type 0} → Network → Happening → Report A → Act A → Type 0
Joins {A} n h (report.Transactions (atp_report.Answered count)) (Calls (Transactions (Answer key packets))) =
    (done A n h).asked ≡ answered n.asked key.from key.tid packets
Joins {A} n h (report.Zones (zip_report.Served count)) (Gets datagram) =
    (s : Sent) × (packet_at n.sent datagram ≡ Some s)
    × ((packets : List Packet) × ((done A n h).asked ≡ answered n.asked s.from (number_of s.packet) packets))
Joins n h r act = Unit {0}

-- a packet in time came that ends the node's transaction of this number with these packets
pub record Ends (A : Type 0) (net number : ℕ) (n : Network) (datagram tid : ℕ) (packets : List Packet) : Type 0 where
  pub packet : Sent
  pub was_sent : packet_at n.sent datagram ≡ Some packet
  pub fresh : is_fresh n.drawn packet ≡ true
  pub ends : (heard {A = A} (n.requesters packet.to) packet.from packet.packet).step ≡ step.Finished packets
  pub comes_to : packet.to ≡ asking net number
  pub numbered : number_of packet.packet ≡ tid

-- what came, if a response is reported or the router served a request
abbrev pub Finishes : {A : Type 0} → ℕ → ℕ → Network → Act A → Report A → Type 0
Finishes {A} net number n (Gets datagram) (report.Transactions (atp_report.Response tid packets)) =
    Ends A net number n datagram tid packets
Finishes net number n (Gets datagram) (report.Zones (zip_report.Served count)) =
    (s : Sent) × (packet_at n.sent datagram ≡ Some s)
Finishes net number n act r = Unit {0}

-- the happening is what the event at the node and its report say; the node has these zone tables, if it is the router
pub record Matches {A : Type 0} (net number : ℕ) (tables : Option Tables) (n : Network) (h : Happening)
    (act : Act A) (r : Report A) : Type 0 where
  pub draws_it : (key : Key) → draws A n h key ≡ began_under net number act r key
  pub expires_it : (at : Address) (key : Key) → expires_there n h at key ≡ expired_at net number act r at key
  pub hands_up : (key : Key) → is_handed_up n h key ≡ handed_up_by n.sent act r key
  pub takes_in : TakesIn h act
  pub begins_as : BeginsAs h act
  pub answers_as : AnswersAs tables n h act r
  pub joins : Joins n h r act
  pub finishes : Finishes net number n act r

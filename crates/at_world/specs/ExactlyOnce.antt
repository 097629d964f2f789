-- How often a play delivers an exactly-once request to its service, by its events, its reports and what was sent
-- (Inside AppleTalk, ATP, "At-least-once and exactly-once transactions").
use Rattle.std.specs.Prelude.{◌≡◌, ℕ, ◌≤◌, ◌&&◌, Bool, true, false, List, [], ◌∷◌, ◌++◌, take, find, slice_get, Some}
use Rattle.std.specs.Prelude.{Result, Ok, Err, AllPairs, Any}
use Rattle.std.specs.List.{before_first, list_any}
use Rattle.at_ddp.specs.Address.{same_address}
use Rattle.at_ddp.specs.Datagram.{Content as Datagram, BeginsWith}
use Rattle.at_ddp.specs.declared.address.Address.{Address}
use Rattle.at_atp.specs.Network.{Sent}
use Rattle.at_atp_frame.specs.Frames.{Content, Request, Spells, number_of}
use Rattle.at_atp_responder.specs.Once.{same_key}
use Rattle.at_atp_frame.specs.Packets.{Packet}
use Rattle.at_atp_responder.specs.declared.reception.Key.{Key}
use Rattle.at_transaction_socket.specs.TransactionSockets.{asking}
use Rattle.at_zip.specs.Tables.{Tables, table_of}
use Rattle.at_zip.specs.declared.request.TableChoice.{TableChoice}
use Rattle.at_event.specs.declared.Call.TheVariants.{Transactions}
use Rattle.at_event.specs.declared.transactions.TransactionCall.TheVariants.{Ask, Answer}
use Rattle.at_event.specs.declared.Timer.TheVariants as timer
use Rattle.at_event.specs.declared.transactions.TransactionTimer.TheVariants as atp_timer
use Rattle.at_event.specs.declared.Report.{Report}
use Rattle.at_event.specs.declared.Report.TheVariants as report
use Rattle.at_event.specs.declared.transactions.TransactionReport.TheVariants as atp_report
use Rattle.at_event.specs.declared.zones.ZoneReport.TheVariants as zip_report
use Rattle.at_steps.specs.AtpReports.{AsksFrom}
use Rattle.at_steps.specs.AtpSteps.{page_answer}
use Rattle.at_world.specs.Events.{NoForge, node_of}
use Rattle.at_world.specs.Sents.{SentDatagram}
use Rattle.at_world.specs.Stories.{posted_packet, tables_by}
use Rattle.at_setup.specs.declared.event.Event.{Event}
use Rattle.at_setup.specs.declared.event.Event.TheVariants as event
use Rattle.at_setup.specs.declared.setup.Setup.{Setup}
use Rattle.at_setup.specs.Setups.{tables_of}
use Rattle.at_world.specs.declared.transcript.Transcript.{Transcript}
use Rattle.at_world.specs.declared.transcript.PlayFault.{PlayFault}

-- one step of a play: an event, its report, and the router's zone tables before it
pub record Played (A : Type 0) : Type 0 where
  pub event : Event A
  pub report : Report A
  pub tables : Tables

-- the steps of a play, the newest first, added to those before; now the router has these tables
abbrev pub onto : {A : Type 0} → Tables → List (Played A) → List (Event A) → List (Report A) → List (Played A)
onto tables past [] rs = past
onto tables past (e ∷ es) [] = past
onto tables past (e ∷ es) (r ∷ rs) =
    onto (tables_by e r tables) (record { event = e; report = r; tables = tables } ∷ past) es rs

-- ---- one request, by its key

-- does a transaction begin under this key?
abbrev pub begins_under : {A : Type 0} → ℕ → Key → Event A → Report A → Bool
begins_under net key e (report.Transactions (atp_report.Begun tid)) =
    same_key (record { from = asking net (node_of e); tid = tid }) key
begins_under net key e r = false

-- the steps since the newest one began
abbrev pub since : {A : Type 0} → ℕ → Key → List (Played A) → List (Played A)
since net key past = before_first (λ x. begins_under net key x.event x.report) past

-- a call asks for so many packets, exactly once
abbrev pub AsksOnce : {A : Type 0} → ℕ → Event A → Type 0
AsksOnce wanted (event.Call node (Transactions (Ask k socket user bytes count true retries))) = count ≡ wanted
AsksOnce wanted e = ⊥

-- by such a call the newest transaction of this key began
abbrev pub BeganOnce : {A : Type 0} → ℕ → Key → ℕ → List (Played A) → Type 0
BeganOnce {A} net key wanted past =
    (x : Played A) × (find (λ y. begins_under net key y.event y.report) past ≡ Some x) × AsksOnce wanted x.event

-- a datagram that was sent has a packet of this key
pub record CameFrom (sent : List SentDatagram) (which : ℕ) (key : Key) : Type 0 where
  pub datagram : SentDatagram
  pub was_sent : slice_get sent which ≡ Some datagram
  pub header : Datagram
  pub rest : List ℕ
  pub begins : BeginsWith datagram.bytes header rest
  pub packet : Content
  pub spells : Spells header.data_ packet
  pub sender : header.from ≡ key.from
  pub numbered : number_of packet ≡ key.tid

-- it was delivered: to a node's service, whose report has its key, or to the router, which answers what came
abbrev pub HandsUp : {A : Type 0} → List SentDatagram → Key → Event A → Report A → Type 0
HandsUp sent key (event.Deliver which node) (report.Transactions (atp_report.Asked k user bytes)) =
    same_key k key ≡ true
HandsUp sent key (event.Deliver which node) (report.Zones (zip_report.Served count)) = CameFrom sent which key
HandsUp sent key e r = ⊥

-- an answer was given to it: by a node's user, or by the router, which answers what came
abbrev pub IsGiven : {A : Type 0} → List SentDatagram → Key → Event A → Report A → Type 0
IsGiven sent key (event.Call node (Transactions (Answer k given))) (report.Transactions (atp_report.Answered count)) =
    same_key k key ≡ true
IsGiven sent key (event.Deliver which node) (report.Zones (zip_report.Served count)) = CameFrom sent which key
IsGiven sent key e r = ⊥

-- a datagram that was sent has a request of this key, and this is the page that it asks for: of which of these tables,
-- and from which place
pub record IsPageFor (sent : List SentDatagram) (tables : Tables) (which : ℕ) (key : Key) (answer : List Packet)
    : Type 0 where
  pub came : CameFrom sent which key
  pub table : TableChoice
  pub start : ℕ
  pub asks_from : AsksFrom came.packet table start
  pub page : answer ≡ page_answer (table_of table tables) start

-- this answer was given to it: that of a node's user, or the page of a table that the router has
abbrev pub GivesBy : {A : Type 0} → List SentDatagram → Tables → Key → List Packet → Event A → Report A → Type 0
GivesBy sent tables key answer (event.Call node (Transactions (Answer k given)))
    (report.Transactions (atp_report.Answered count)) =
    (same_key k key ≡ true) × (given ≡ answer)
GivesBy sent tables key answer (event.Deliver which node) (report.Zones (zip_report.Served count)) =
    IsPageFor sent tables which key answer
GivesBy sent tables key answer e r = ⊥

-- ---- plays in which no request outlives its record

-- the release timer removed its record at this responder
abbrev pub expires : {A : Type 0} → ℕ → Address → Key → Event A → Report A → Bool
expires net at key (event.Timer node (timer.Transactions (atp_timer.Release own k)))
    (report.Transactions atp_report.Expired) =
    same_address (record { net = net; node = node; socket = own }) at && same_key k key
expires net at key e r = false

-- If a request comes, its record did not expire where it comes to since its transaction began. A timer is 0 to 4: the
-- bytes that a greater one would have are those of other packets.
abbrev pub Lives : {A : Type 0} → ℕ → List SentDatagram → Event A → List (Played A) → Type 0
Lives net sent (event.Deliver which node) before = (s : Sent) (mask : ℕ) (xo : Bool) (timer tid : ℕ)
    (user bytes : List ℕ) → slice_get sent which ≡ Some (posted_packet s)
    → s.packet ≡ Request mask xo timer tid user bytes → timer ≤ 4
    → list_any (λ y. expires net s.to (record { from = s.from; tid = tid }) y.event y.report)
    (since net (record { from = s.from; tid = tid }) before) ≡ false
Lives net sent e before = Unit {0}

-- so it is at each step, after those before it
abbrev pub AllLive : {A : Type 0} → ℕ → List SentDatagram → List (Played A) → Type 0
AllLive {A} net sent past = (later before : List (Played A)) (x : Played A) → past ≡ later ++ x ∷ before
    → Lives net sent x.event before

-- ---- the promise

-- at most one of these steps is so
abbrev pub AtMostOne : {A : Type 0} → (Event A → Report A → Type 0) → List (Played A) → Type 0
AtMostOne P steps = AllPairs (λ x y. P x.event x.report → ¬ P y.event y.report) steps

-- it was delivered at most once since its transaction began, and answered at most once
pub record RanOnce {A : Type 0} (net : ℕ) (sent : List SentDatagram) (key : Key) (past : List (Played A))
    : Type 0 where
  pub delivered : AtMostOne (HandsUp sent key) (since net key past)
  pub answered : AtMostOne (IsGiven sent key) (since net key past)

-- A transaction that asked for so many packets ends with these. Its request was delivered since it began. The packets
-- are the answer that was given to it, or as many of its first packets as were asked for.
pub record EndsWith {A : Type 0} (sent : List SentDatagram) (key : Key) (wanted : ℕ) (packets : List Packet)
    (steps : List (Played A)) : Type 0 where
  pub delivered : Any (λ x. HandsUp sent key x.event x.report) steps
  pub answer : List Packet
  pub given : Any (λ x. GivesBy sent x.tables key answer x.event x.report) steps
  pub tells : packets ≡ take wanted answer

-- so it is with a response that is reported, if its transaction is exactly-once
abbrev pub EndsBy : {A : Type 0} → ℕ → List SentDatagram → Event A → Report A → List (Played A) → Type 0
EndsBy net sent (event.Deliver which node) (report.Transactions (atp_report.Response tid packets)) past =
    (key : Key) (wanted : ℕ)
    → key ≡ record { from = asking net node; tid = tid } → BeganOnce net key wanted past
    → EndsWith sent key wanted packets (since net key past)
EndsBy net sent e r past = Unit {0}

-- At each moment, each exactly-once request was delivered and answered at most once since its transaction began. If the
-- transaction ended with a response, it was delivered once, and the response is of the one answer that was given to it.
abbrev pub RunsOnce : {A : Type 0} → ℕ → List SentDatagram → List (Played A) → Type 0
RunsOnce {A} net sent past = (later before : List (Played A)) (x : Played A) → past ≡ later ++ x ∷ before
    → ((key : Key) (wanted : ℕ) → BeganOnce net key wanted (x ∷ before) → RanOnce net sent key (x ∷ before))
    × EndsBy net sent x.event x.report before

-- so it is of these events and reports, if nothing was forged and no request outlives its record
abbrev pub RunsOnceIn : {A : Type 0} → Setup A → List (Event A) → List (Report A) → List SentDatagram → Type 0
RunsOnceIn s events reports sent = NoForge events → AllLive s.net sent (onto (tables_of s) [] events reports)
    → RunsOnce s.net sent (onto (tables_of s) [] events reports)

-- the same for a play, whole or up to where it stopped
abbrev pub IsOnce : {A : Type 0} → Setup A → List (Event A) → Result (Transcript A) (PlayFault A) → Type 0
IsOnce s events (Ok t) = RunsOnceIn s events t.reports t.sent
IsOnce s events (Err f) = RunsOnceIn s (take f.at events) f.transcript.reports f.transcript.sent

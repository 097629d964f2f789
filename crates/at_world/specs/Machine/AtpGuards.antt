-- What the machine knows of transactions and of the zone tables, and which reports of them it allows (Inside AppleTalk,
-- ATP, "Transactions", and ZIP, "GetZoneList", "GetLocalZones").
use Rattle.std.specs.Prelude.{◌≡◌, ℕ, ◌≤◌, ◌==◌, not, List, [], ◌∷◌, ◌++◌, length, filter, find}
use Rattle.std.specs.Prelude.{slice_get, Option, Some}
use Rattle.at_ddp.specs.declared.address.Address.{Address}
use Rattle.at_atp_frame.specs.Packets.{Packet}
use Rattle.at_atp_responder.specs.declared.reception.Key.{Key}
use Rattle.at_zip.specs.Reading.{BeginsTable}
use Rattle.at_zip.specs.Tables.{Tables, table_of, with_table}
use Rattle.at_zip.specs.Zones.{IsTable}
use Rattle.at_zip.specs.declared.request.TableChoice.{TableChoice}
use Rattle.at_transaction_socket.specs.TransactionSockets.{asking, serving}
use Rattle.at_zone_socket.specs.ZoneSockets.{zones_at}
use Rattle.at_event.specs.Kinds.{Speaker, Atp}
use Rattle.at_event.specs.declared.Call.TheVariants.{Transactions, Zones}
use Rattle.at_event.specs.declared.transactions.TransactionCall.TheVariants.{Ask, Answer}
use Rattle.at_event.specs.declared.zones.ZoneCall.TheVariants as zone
use Rattle.at_event.specs.declared.Report.{Report}
use Rattle.at_event.specs.declared.Report.TheVariants as report
use Rattle.at_event.specs.declared.transactions.TransactionReport.TheVariants as atp_report
use Rattle.at_event.specs.declared.zones.ZoneReport.TheVariants as zip_report
use Rattle.at_steps.specs.AtpSteps.{page_answer}
use Rattle.at_world.specs.Cables.{Cable, at_net}
use Rattle.at_world.specs.Transactions.{Transaction, Asks, ForPage, ForService, new_transaction, page_asked, Asked}
use Rattle.at_world.specs.Transactions.{transaction_of, answered, IsResponse}
use Rattle.at_setup.specs.declared.event.Event.{Event}
use Rattle.at_setup.specs.declared.event.Event.TheVariants as event
use Rattle.at_setup.specs.declared.setup.Setup.{Setup}
use Rattle.at_setup.specs.Setups.{tables_of}

-- a node reads a zone table since this moment
pub record Reading : Type 0 where
  pub node : ℕ
  pub which : TableChoice
  pub since : ℕ

-- A moment is the state after an event. The first moment is the opening state.
pub record AtpMachine : Type 0 where
  pub tables : Tables  -- the router's zone tables
  pub past : List Tables  -- the tables at each moment so far, this one included
  pub asked : List Transaction  -- newest first
  pub readings : List Reading

abbrev pub opening : {A : Type 0} → Setup A → AtpMachine
opening s = record { tables = tables_of s; past = tables_of s ∷ []; asked = []; readings = [] }

-- the same one moment later
abbrev pub next : AtpMachine → AtpMachine
next m = record m { past = m.past ++ m.tables ∷ [] }

-- ---- readings of a zone table

-- the reading of a node
abbrev pub reading_of : List Reading → ℕ → Option Reading
reading_of rs node = find (λ r. r.node == node) rs

-- a node reads this table since this moment
abbrev pub ReadsSince : List Reading → ℕ → TableChoice → ℕ → Type 0
ReadsSince rs node which since = reading_of rs node ≡ Some (record { node = node; which = which; since = since })

-- the readings of the other nodes
abbrev pub without_reading : List Reading → ℕ → List Reading
without_reading rs node = filter (λ r. not (r.node == node)) rs

-- the table of this kind was this one at every moment from that one on
abbrev pub StoodSince : List Tables → ℕ → TableChoice → List (List ℕ) → Type 0
StoodSince past since which table = (moment : ℕ) (tables : Tables) → since ≤ moment
    → slice_get past moment ≡ Some tables → table_of which tables ≡ table

-- ---- the steps, one for each report

-- a reading of a zone table begins: the node asks the router for the first page
pub record BeginsReading (c : Cable) (m : AtpMachine) (node : ℕ) (which : TableChoice) (tid : ℕ) (m' : AtpMachine)
    : Type 0 where
  pub router : ℕ
  pub is_router : c.router ≡ Some router
  pub becomes : m' ≡ next (record m {
    asked = page_asked c.net node (zones_at c.net router) which [] tid ∷ m.asked;
    readings = record { node = node; which = which; since = length m.past } ∷ m.readings;
  })

-- a reading goes on: with these names so far, the node asks the router for the page after them. They begin the table
-- that it reads, if that was the same at every moment since the reading began.
pub record GoesOn (c : Cable) (m : AtpMachine) (node tid : ℕ) (m' : AtpMachine) : Type 0 where
  pub router : ℕ
  pub is_router : c.router ≡ Some router
  pub which : TableChoice
  pub since : ℕ
  pub began : ReadsSince m.readings node which since
  pub names : List (List ℕ)
  pub few : length names ≤ 1024
  pub tells : StoodSince m.past since which (table_of which m.tables) → BeginsTable (table_of which m.tables) names
  pub becomes : m' ≡ next (record m {
    asked = page_asked c.net node (zones_at c.net router) which names tid ∷ m.asked;
  })

-- the router gets another zone table in the place of one
pub record SetsTable (c : Cable) (m : AtpMachine) (node : ℕ) (which : TableChoice) (names : List (List ℕ))
    (m' : AtpMachine)
    : Type 0 where
  pub is_router : c.router ≡ Some node
  pub is_table : IsTable names
  pub becomes : m' ≡ next (record m { tables = with_table which names m.tables })

-- a transaction begins
abbrev pub BeginsAsking : AtpMachine → Transaction → AtpMachine → Type 0
BeginsAsking m t m' = m' ≡ next (record m { asked = t ∷ m.asked })

-- a node's user answers the newest transaction of a requester under a number, which asked the node's service
pub record GivesAnswer (c : Cable) (m : AtpMachine) (node : ℕ) (requester : Address) (tid : ℕ)
    (packets : List Packet) (count : ℕ) (m' : AtpMachine) : Type 0 where
  pub asked : Asked m.asked requester tid (serving c.net node)
  pub few : count ≤ length packets
  pub becomes : m' ≡ next (record m { asked = answered m.asked requester tid packets })

-- the service receives what such a transaction asks
pub record IsAsked (c : Cable) (m : AtpMachine) (node : ℕ) (key : Key) (user bytes : List ℕ) : Type 0 where
  pub asked : Asked m.asked key.from key.tid (serving c.net node)
  pub asks : (asked.transaction).asks ≡ ForService user bytes

-- a node's transaction ends with a response to it
pub record IsAnswered (c : Cable) (m : AtpMachine) (node tid : ℕ) (packets : List Packet) : Type 0 where
  pub transaction : Transaction
  pub newest : transaction_of m.asked (asking c.net node) tid ≡ Some transaction
  pub response : IsResponse transaction packets

-- A transaction may ask the router for this page: the one that a reading asks for, or any page, by the user bytes of a
-- call. Which page those spell is said in Agreements.
abbrev pub MayAskFor : Asks → TableChoice → ℕ → Type 0
MayAskFor (ForPage kind from) which start = (kind ≡ which) × (from ≡ start)
MayAskFor (ForService user bytes) which start = Unit {0}

-- the router answers a transaction that asked it for the page of a table from a place on, with that page of the table
-- as it is now
pub record Serves (c : Cable) (m : AtpMachine) (node count : ℕ) (m' : AtpMachine) : Type 0 where
  pub is_router : c.router ≡ Some node
  pub requester : Address
  pub tid : ℕ
  pub asked : Asked m.asked requester tid (zones_at c.net node)
  pub which : TableChoice
  pub start : ℕ
  pub asks_from : MayAskFor (asked.transaction).asks which start
  pub one : count ≤ 1
  pub becomes : m' ≡ next (record m {
    asked = answered m.asked requester tid (page_answer (table_of which m.tables) start);
  })

-- a reading ends: the zones that are reported are the table that it asked for, if that was the same at every moment
-- since the reading began
pub record EndsReading (m : AtpMachine) (node : ℕ) (which : TableChoice) (names : List (List ℕ)) (m' : AtpMachine)
    : Type 0 where
  pub since : ℕ
  pub began : ReadsSince m.readings node which since
  pub tells : StoodSince m.past since which (table_of which m.tables) → names ≡ table_of which m.tables
  pub becomes : m' ≡ next (record m { readings = without_reading m.readings node })

-- a reading ends without a list
pub record FailsReading (m : AtpMachine) (node : ℕ) (m' : AtpMachine) : Type 0 where
  pub which : TableChoice
  pub since : ℕ
  pub began : ReadsSince m.readings node which since
  pub becomes : m' ≡ next (record m { readings = without_reading m.readings node })

-- the reports of this protocol, row by row
abbrev pub Says : {A : Type 0} → Cable → AtpMachine → Event A → Report A → AtpMachine → Type 0
Says c m (event.Call node (Zones (zone.Read which))) (report.Transactions (atp_report.Begun tid)) m' =
    BeginsReading c m node which tid m'
Says c m (event.Call node (Transactions (Ask k socket user bytes wanted xo retries)))
    (report.Transactions (atp_report.Begun tid)) m' =
    BeginsAsking m
    (new_transaction (asking c.net node) tid (at_net c k socket) (ForService user bytes) wanted xo) m'
Says c m (event.Call node (Transactions (Answer key packets))) (report.Transactions (atp_report.Answered count)) m' =
    GivesAnswer c m node key.from key.tid packets count m'
Says c m (event.Call node (Zones (zone.Set which names))) (report.Zones zip_report.TableSet) m' =
    SetsTable c m node which names m'
Says c m (event.Deliver which node) (report.Transactions (atp_report.Begun tid)) m' = GoesOn c m node tid m'
Says c m (event.Deliver which node) (report.Zones (zip_report.Served count)) m' = Serves c m node count m'
Says c m (event.Deliver which node) (report.Transactions (atp_report.Asked key user bytes)) m' =
    IsAsked c m node key user bytes × (m' ≡ next m)
Says c m (event.Deliver which node) (report.Transactions (atp_report.Response tid packets)) m' =
    IsAnswered c m node tid packets × (m' ≡ next m)
Says c m (event.Deliver which node) (report.Zones (zip_report.List table names)) m' = EndsReading m node table names m'
Says c m (event.Deliver which node) (report.Transactions atp_report.Kept) m' = m' ≡ next m
Says c m (event.Deliver which node) (report.Transactions atp_report.Released) m' = m' ≡ next m
Says c m (event.Timer node timer) (report.Transactions atp_report.Expired) m' = m' ≡ next m
Says c m (event.Timer node timer) (report.Transactions (atp_report.Failed tid)) m' = m' ≡ next m
Says c m (event.Timer node timer) (report.Zones zip_report.Unanswered) m' = FailsReading m node m'
Says c m e r m' = ⊥

-- at a report of another protocol, or of nobody, a moment passes
abbrev pub StepBy : {A : Type 0} → Cable → AtpMachine → Event A → Report A → AtpMachine → Speaker → Type 0
StepBy c m e r m' Atp = Says c m e r m'
StepBy c m e r m' other = m' ≡ next m

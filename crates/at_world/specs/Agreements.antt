-- What a run of the machine has in common with the worlds in which its events happen. The machine itself has no end, no
-- connection identifier and no datagram.
use Rattle.std.specs.Prelude.{◌≡◌, ℕ, true, List, [], ◌∷◌, take, slice_get, Some, Result, Ok, Err}
use Rattle.at_adsp.specs.Meetings.{NamesPeer}
use Rattle.at_adsp_end.specs.Ends.{EndState, has_opened}
use Rattle.at_adsp_ends.specs.Tables.{by_id}
use Rattle.at_atp.specs.Network.{Sent}
use Rattle.at_atp_frame.specs.Frames.{number_of}
use Rattle.at_atp_frame.specs.Packets.{Packet}
use Rattle.at_event.specs.declared.Report.{Report}
use Rattle.at_event.specs.declared.Report.TheVariants as report
use Rattle.at_event.specs.declared.zones.ZoneReport.TheVariants as zip_report
use Rattle.at_ddp.specs.declared.address.Address.{Address}
use Rattle.at_zone_socket.specs.ZoneSockets.{zones_at}
use Rattle.at_node.specs.Nodes.{NodeState}
use Rattle.at_setup.specs.declared.event.Event.{Event}
use Rattle.at_setup.specs.declared.event.Event.TheVariants as event
use Rattle.at_setup.specs.declared.setup.Setup.{Setup}
use Rattle.at_steps.specs.AtpSteps.{page_answer}
use Rattle.at_stream_socket.specs.Sockets.{streams_at}
use Rattle.at_zip.specs.Request.{RequestSpells, request_user}
use Rattle.at_zip.specs.Tables.{table_of}
use Rattle.at_zip.specs.declared.request.TableChoice.{TableChoice}
use Rattle.at_world.specs.Machine.AtpGuards.{AtpMachine}
use Rattle.at_world.specs.Events.{NoForge}
use Rattle.at_world.specs.Machine.{Machine, Run, opening_machine}
use Rattle.at_world.specs.Plays.{Follows, opening_world}
use Rattle.at_world.specs.Stories.{posted_packet}
use Rattle.at_world.specs.Transactions.{Asks, ForPage, ForService, Asked, answered}
use Rattle.at_world.specs.Worlds.{WorldState, node_at}
use Rattle.at_world.specs.declared.transcript.Transcript.{Transcript}
use Rattle.at_world.specs.declared.transcript.PlayFault.{PlayFault}

-- Each end of a node that opened, and was not freed, has as its remote the address and the identifier of its peer in
-- the machine (Inside AppleTalk, ADSP, "Opening a connection").
abbrev pub NamesPeers : Machine → WorldState → Type 0
NamesPeers m w =
    (k : ℕ) (n : NodeState) → node_at w k ≡ Some n → (id : ℕ) (e : EndState) → by_id n.streams id ≡ Some e
    → has_opened e.phase ≡ true → NamesPeer m.streams.streams (streams_at m.cable.net k) e

-- what a transaction asks for, as the user bytes and the data of its request
abbrev pub on_wire : Asks → Packet
on_wire (ForPage which start) = record { user = request_user which start; data_ = [] }
on_wire (ForService user bytes) = record { user = user; data_ = bytes }

-- A router answers a requester's newest transaction of a number, by the page that its user bytes ask for: that of this
-- moment's table, from a place on (Inside AppleTalk, ZIP, "GetZoneList", "GetLocalZones").
pub record ServesItsPage (net node : ℕ) (m m' : AtpMachine) (requester : Address) (tid : ℕ) : Type 0 where
  pub asked : Asked m.asked requester tid (zones_at net node)
  pub which : TableChoice
  pub start : ℕ
  pub asks_from : RequestSpells (on_wire (asked.transaction).asks).user which start
  pub becomes : m'.asked ≡ answered m.asked requester tid (page_answer (table_of which m.tables) start)

-- The page that a router reports as served answers the transaction of the request that was delivered: that of its
-- sender, under its number (Inside AppleTalk, ATP, "Transactions").
abbrev pub AnswersItsRequest : {A : Type 0} → Machine → WorldState → Event A → Report A → Machine → Type 0
AnswersItsRequest m w (event.Deliver which k) (report.Zones (zip_report.Served count)) m' =
    (request : Sent) × (slice_get w.sent which ≡ Some (posted_packet request))
    × ServesItsPage m.cable.net k m.atp m'.atp request.from (number_of request.packet)
AnswersItsRequest m w e r m' = Unit {0}

-- So it is after each event of a run of the machine, and of the worlds that follow each other by the same events.
abbrev pub AgreeThroughout : {A : Type 0} (m : Machine) (w : WorldState) (es : List (Event A)) (rs : List (Report A))
    (m' : Machine) (w' : WorldState) → Run m es rs m' → Follows w es rs w' → Type 0
AgreeThroughout m w (e ∷ es) (r ∷ rs) m' w' run follows =
    NamesPeers run.0 follows.0 × AnswersItsRequest m w e r run.0
    × AgreeThroughout run.0 follows.0 es rs m' w' run.2 follows.3
AgreeThroughout m w es rs m' w' run follows = Unit {0}

-- From the opening on, these events give these reports and this world. The reports are a run of the machine, which
-- agrees with the worlds throughout.
pub record HasAgreeingRun {A : Type 0} (s : Setup A) (es : List (Event A)) (rs : List (Report A)) (w : WorldState)
    : Type 0 where
  pub follows : Follows (opening_world s) es rs w
  pub machine : Machine
  pub run : Run (opening_machine s) es rs machine
  pub agree : AgreeThroughout (opening_machine s) (opening_world s) es rs machine w run follows

-- so it is of what was played, and of all that was sent, if nothing was forged
abbrev pub IsAgreed : {A : Type 0} → Setup A → List (Event A) → Transcript A → Type 0
IsAgreed s events t =
    NoForge events → (w : WorldState) × HasAgreeingRun s events t.reports w × (t.sent ≡ w.sent)

abbrev pub IsAgreedRun : {A : Type 0} → Setup A → List (Event A) → Result (Transcript A) (PlayFault A) → Type 0
IsAgreedRun s events (Ok t) = IsAgreed s events t
IsAgreedRun s events (Err f) = IsAgreed s (take f.at events) f.transcript

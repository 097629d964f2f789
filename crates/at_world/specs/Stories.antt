-- What a play is in the network of its requesters and responders: each event is one happening there (Inside AppleTalk,
-- ATP, "At-least-once and exactly-once transactions").
use Rattle.std.specs.Prelude.{◌≡◌, ℕ, List, [], ◌∷◌, ◌++◌, slice_get, Option, Some}
use Rattle.std.specs.List.{AllByRecursion}
use Rattle.at_ddp.specs.Datagram.{canonical}
use Rattle.at_atp_frame.specs.Frames.{spelled}
use Rattle.at_atp.specs.Lawfully.{IsInRange}
use Rattle.at_ddp.specs.Posts.{packet_at}
use Rattle.at_ddp.specs.Protocols.{atp_kind}
use Rattle.at_atp.specs.Network.{Network, Sent, Happening, AllTimely, after, done}
use Rattle.at_zip.specs.Tables.{Tables, with_table}
use Rattle.at_event.specs.declared.Call.TheVariants.{Zones}
use Rattle.at_event.specs.declared.zones.ZoneCall.TheVariants as zone
use Rattle.at_event.specs.declared.Report.{Report}
use Rattle.at_event.specs.declared.Report.TheVariants as report
use Rattle.at_event.specs.declared.zones.ZoneReport.TheVariants as zip_report
use Rattle.at_steps.specs.AtpReports as reports
use Rattle.at_world.specs.Events.{act_of, node_of}
use Rattle.at_world.specs.Sents.{SentDatagram}
use Rattle.at_setup.specs.declared.event.Event.{Event}
use Rattle.at_setup.specs.declared.event.Event.TheVariants as event

-- ---- one happening for each event

-- the router's zone tables after an event with this report, if they were these before: a call may set one
abbrev pub tables_by : {A : Type 0} → Event A → Report A → Tables → Tables
tables_by (event.Call node (Zones (zone.Set which names))) (report.Zones zip_report.TableSet) tables =
    with_table which names tables
tables_by e r tables = tables

-- the happening is what the event and its report say, while the router has these zone tables
abbrev pub Matches : {A : Type 0} → ℕ → Tables → Network → Happening → Event A → Report A → Type 0
Matches net tables n h e r = reports.Matches net (node_of e) (Some tables) n h (act_of e) r

-- what is sent is added to what was sent
abbrev pub Grows : (A : Type 0) → Network → Happening → Type 0
Grows A n h = (more : List (Option Sent)) × ((done A n h).sent ≡ n.sent ++ more)

-- These events and reports, after what happened before, make this history, whose newest happening comes first. Before
-- them the router has these zone tables.
abbrev pub Tells : {A : Type 0} → ℕ → Tables → List Happening → List (Event A) → List (Report A)
    → List Happening → Type 0
Tells net tables before [] [] history = history ≡ before
Tells {A} net tables before (e ∷ es) (r ∷ rs) history = (h : Happening) × Matches net tables (after A before) h e r
    × Grows A (after A before) h × Tells net (tables_by e r tables) (h ∷ before) es rs history
Tells net tables before [] (r ∷ rs) history = ⊥
Tells net tables before (e ∷ es) [] history = ⊥

-- a packet as the world's list has it
abbrev pub posted_packet : Sent → SentDatagram
posted_packet s =
    record { event = s.event; to = (s.to).node; bytes = canonical s.to s.from atp_kind (spelled s.packet) }

-- each packet of the network stands at its place among all datagrams of the world
abbrev pub Within : List SentDatagram → Network → Type 0
Within sent n = (which : ℕ) (s : Sent) → packet_at n.sent which ≡ Some s → slice_get sent which ≡ Some (posted_packet s)

-- A history in which no packet outlives its number, that these events and reports make, and that sent this. In the
-- beginning the router has these zone tables.
pub record IsHistory {A : Type 0} (net : ℕ) (tables : Tables) (es : List (Event A)) (rs : List (Report A))
    (sent : List SentDatagram) (history : List Happening) : Type 0 where
  pub timely : AllTimely A history
  pub in_range : AllByRecursion IsInRange history
  pub tells : Tells net tables [] es rs history
  pub is_sent : Within sent (after A history)

-- What ties a world to what the machine knows of transactions and of the zone list, through a history of the network of
-- its requesters and responders.
use Rattle.std.proofs.Common.{◌≡◌, ℕ, ◌+◌, true, false, List, ◌∷◌, ◌++◌, map, Option, Some, None, refl, sym}
use Rattle.std.proofs.Common.{ap, subst, ◌∙◌}
use Rattle.std.specs.Prelude.{◌==◌}
use Rattle.std.specs.List.{AllByRecursion}
use Rattle.at_ddp.specs.Datagram.{canonical, IsAddress}
use Rattle.at_ddp.specs.declared.address.Address.{Address}
use Rattle.at_atp_frame.specs.Frames.{Content, IsLawful, spelled, owner, number_of}
use Rattle.at_atp.specs.Lawfully.{IsInRange, IsLawfullySent}
use Rattle.at_ddp.specs.Posts.{AllSent, packet_at, put}
use Rattle.at_ddp.proofs.PostLemmas.{put_same}
use Rattle.at_ddp.specs.Protocols.{atp_kind}
use Rattle.at_world.proofs.Entries.{Entries, entries_both, entries_of}
use Rattle.at_atp.specs.Network.{Network, Sent, Happening, Answers, Serves, NoneHolds, after, done, is_fresh, AllTimely}
use Rattle.at_atp.specs.Transactions as atp
use Rattle.at_zip.specs.Tables.{Tables, AreTables, table_of}
use Rattle.at_event.specs.Kinds.{IsCall}
use Rattle.at_node.specs.Numbers.{Carries, drawn_by, holds}
use Rattle.at_zone_socket.specs.ZoneSockets.{Reading as ZoneReading, zones_at}
use Rattle.at_transaction_socket.specs.TransactionSockets.{asking, serving}
use Rattle.at_node.specs.Hearing.{Hears}
use Rattle.at_event.specs.Kinds.{speaker_of_call, speaker_of_timer, reporter_of}
use Rattle.at_node.specs.Nodes.{NodeState, called, timed}
use Rattle.at_event.specs.Outcomes.{Outcome, posted}
use Rattle.at_event.specs.Services.{is_asked}
use Rattle.at_node.specs.declared.numbers.Draw.{Draw}
use Rattle.at_node.specs.declared.numbers.Draw.TheVariants.{Tid}
use Rattle.at_event.specs.declared.Call.{Call}
use Rattle.at_event.specs.declared.Report.{Report}
use Rattle.at_event.specs.declared.Report.TheVariants as report
use Rattle.at_event.specs.declared.zones.ZoneReport.TheVariants as zip_report
use Rattle.at_event.specs.declared.Timer.{Timer}
use Rattle.at_event.specs.declared.service.Reply.{Reply}
use Rattle.at_event.specs.declared.service.Reply.TheVariants.{Later}
use Rattle.at_steps.specs.Acts.{Act, Calls, Fires, Gets}
use Rattle.at_steps.specs.AtpReports as reports
use Rattle.at_steps.specs.AtpReports.{AnswersAs}
use Rattle.at_steps.specs.AtpSteps.{page_answer}
use Rattle.at_steps.specs.AtpHappenings.{Happens, HoldsNo, IsForeign, IsHappening, IsOn, IsOpen, Passes, Stands, is_atp}
use Rattle.at_steps.specs.AtpHappenings.{numbers_drawn, atp_coding}
use Rattle.at_world.specs.Draws.{noted as noted_in}
use Rattle.at_world.specs.Machine.AtpGuards.{AtpMachine, Reading, StepBy, reading_of, next}
use Rattle.at_world.specs.Agreements.{ServesItsPage}
use Rattle.at_world.specs.Cables.{Cable}
use Rattle.at_world.specs.Events.{act_of, node_of}
use Rattle.at_world.specs.Stories.{Grows, Matches}
use Rattle.at_world.specs.Transactions.{Transaction}
use Rattle.at_world.specs.Worlds.{WorldState, node_at, recorded}
use Rattle.at_setup.specs.declared.event.Event.{Event}
use Rattle.at_setup.specs.declared.event.Event.TheVariants as event
use Rattle.at_world.proofs.CableTie.{Wire, wire, SeatTie, found_after}
use Rattle.at_world.proofs.Parts.Atp.OnWire.{AskWell, wired}
use Rattle.at_world.proofs.Parts.Atp.Places.{requester_at, requester_after, records_at, records_after}
use Rattle.at_world.proofs.Parts.Atp.Readings.{ReadingLaws, Reads, StaysAsked, still_reads}
use Rattle.at_world.proofs.Parts.Atp.Times.{IsNoted, all_noted, drawn_too}

-- what the layers below promise
pub record Laws (A : Type 0) : Type 0 where
  pub foreign_call : (n : NodeState) (call : Call A) → is_atp (speaker_of_call call) ≡ false
      → IsForeign n (Calls call) (called n call)
  pub foreign_timer : (n : NodeState) (time : Timer) → is_atp (speaker_of_timer time) ≡ false
      → IsForeign {A = A} n (Fires time) (timed n time)
  pub foreign_datagram : (n : NodeState) (which : ℕ) (to from : Address) (kind : ℕ) (bytes : List ℕ) (said : Reply A)
      (o : Outcome A NodeState) → (kind == atp_kind) ≡ false → Hears said n (canonical to from kind bytes) o
      → IsForeign n (Gets which) o
  pub called : (history : List Happening) (n : NodeState) (call : Call A) → Stands A history n.seat.net n.seat.number n
      → IsCall call → is_atp (speaker_of_call call) ≡ true
      → ((tid : ℕ) → drawn_by (called n call).report ≡ Some (Tid tid)
      → NoneHolds (after A history).responders (asking n.seat.net n.seat.number) tid)
      → IsHappening A history n.seat.net n.seat.number n (Calls call) (called n call)
  pub timed : (history : List Happening) (n : NodeState) (time : Timer) → Stands A history n.seat.net n.seat.number n
      → is_atp (speaker_of_timer time) ≡ true
      → IsHappening A history n.seat.net n.seat.number n (Fires time) (timed n time)
  pub heard : (history : List Happening) (n : NodeState) (which : ℕ) (s : Sent) (said : Reply A)
      (o : Outcome A NodeState) → Stands A history n.seat.net n.seat.number n → packet_at (after A history).sent which
      ≡ Some s → is_fresh (after A history).drawn s ≡ true
      → ((tid : ℕ) → drawn_by o.report ≡ Some (Tid tid)
      → NoneHolds (after A history).responders (asking n.seat.net n.seat.number) tid)
      → (is_asked o.report ≡ true → said ≡ Later)
      → Hears said n (canonical s.to s.from atp_kind (spelled s.packet)) o
      → IsHappening A history n.seat.net n.seat.number n (Gets which) o
  pub passes : (history : List Happening) (n : NodeState) (act : Act A) (o : Outcome A NodeState)
      → Stands A history n.seat.net n.seat.number n → IsForeign n act o
      → Passes A history n.seat.net n.seat.number n act o
  pub unheld : (net k tid : ℕ) (n : NodeState) → holds n k (Tid tid) ≡ false
      → HoldsNo (asking net k) tid n.atp.transactions.service_responder × HoldsNo (asking net k) tid
      n.atp.zones.zone_responder
  pub carries : (to from : Address) (f : Content) → IsAddress to → IsAddress from → IsLawful f
      → Carries (canonical to from atp_kind (spelled f)) (owner from to f).node (Tid (number_of f))
  pub lawful_sent : (history : List Happening) → AllByRecursion IsInRange history
      → AllSent IsLawfullySent (after A history).sent
  pub reading : ReadingLaws

-- ---- what is known of a world

-- a node that has zone tables is the router, and they are the machine's
abbrev pub HasTables : Cable → Tables → ℕ → NodeState → Type 0
HasTables c tables k n = (t : Tables) → n.atp.zones.tables ≡ Some t → (t ≡ tables) × (c.router ≡ Some k)

abbrev pub IsReading : Cable → AtpMachine → ℕ → Option ZoneReading → Type 0
IsReading c m k None = Unit {0}
IsReading c m k (Some r) = Reads c.net c.router m.past m.asked m.readings k r

pub record AtpTie (A : Type 0) (w : WorldState) (c : Cable) (wires : List Wire) (m : AtpMachine) : Type 0 where
  pub are_tables : AreTables m.tables
  pub history : List Happening
  pub timely : AllTimely A history
  pub in_range : AllByRecursion IsInRange history
  pub events : w.events ≡ (after A history).event
  pub requesters : (who : Address) → (after A history).requesters who ≡ requester_at c.net w.nodes who
  pub responders : (at : Address) → (after A history).responders at ≡ records_at c.net w.nodes at
  pub sent : Entries atp_coding wires (after A history).sent
  pub drawn : AllByRecursion (IsNoted w.last w.events) (after A history).drawn
  pub asked : (after A history).asked ≡ map wired m.asked
  pub ask_well : AskWell m.asked
  pub tables : (k : ℕ) (n : NodeState) → node_at w k ≡ Some n → HasTables c m.tables k n
  pub opened : (k : ℕ) (n : NodeState) → node_at w k ≡ Some n → IsOpen n.atp
  pub readings : (k : ℕ) (n : NodeState) → node_at w k ≡ Some n → IsReading c m k n.atp.zones.reading
  pub on_net : AllByRecursion (IsOn c.net) (map wired m.asked)

-- the machine a moment later, with these tables, transactions and readings
abbrev pub moved : AtpMachine → Tables → List Transaction → List Reading → AtpMachine
moved m tables asked readings = next (record m { tables = tables; asked = asked; readings = readings })

-- ---- one step

-- a page that is served is the one that its transaction asks for on the wire
abbrev pub Spelled : {A : Type 0} → Cable → AtpMachine → Event A → Report A → AtpMachine → Type 0
Spelled c m (event.Deliver which node) (report.Zones (zip_report.Served count)) m' =
    (requester : Address) × (tid : ℕ) × ServesItsPage c.net node m m' requester tid
Spelled c m e r m' = Unit {0}

-- What a step does to what the machine knows: which transactions and readings there are after it, as far as the tie of
-- the nodes needs it. The step is of node k, which becomes x.
pub record Becomes (A : Type 0) (c : Cable) (m : AtpMachine) (e : Event A) (x : NodeState) (r : Report A)
    (asked : List Transaction) : Type 0 where
  pub tables : Tables
  pub are_tables : AreTables tables
  pub readings : List Reading
  pub ask_well : AskWell asked
  pub allows : StepBy c m e r (moved m tables asked readings) (reporter_of r)
  pub spelled : Spelled c m e r (moved m tables asked readings)
  pub here : HasTables c tables (node_of e) x
  pub elsewhere : (j : ℕ) (y : NodeState) → (node_of e == j) ≡ false → HasTables c m.tables j y → HasTables c tables j y
  pub reading : IsReading c (moved m tables asked readings) (node_of e) x.atp.zones.reading
  pub others : (j : ℕ) → (node_of e == j) ≡ false → reading_of readings j ≡ reading_of m.readings j
  pub still : (j tid server : ℕ) → (node_of e == j) ≡ false
      → StaysAsked tables m.asked asked (asking c.net j) tid (zones_at c.net server)

-- so it is with the transactions that the network has after the step
pub record Stepped (A : Type 0) (c : Cable) (m : AtpMachine) (e : Event A) (x : NodeState) (r : Report A)
    (now : List atp.Transaction) : Type 0 where
  pub asked : List Transaction
  pub on_wire : now ≡ map wired asked
  pub becomes : Becomes A c m e x r asked

-- The history grew by one happening, which is what the event and its report say. What was served was spelled.
abbrev pub Grown : (A : Type 0) (cable : Cable) (m : AtpMachine) (before now : List Happening) → Event A
    → Report A → AtpMachine → Type 0
Grown A cable m before now e r m' = (h : Happening) × (now ≡ h ∷ before)
    × Matches cable.net m.tables (after A before) h e r × Grows A (after A before) h × Spelled cable m e r m'

-- what matches with the tables of a node matches with the machine's tables, if those are the node's
with_tables : (A : Type 0) (net number : ℕ) (its : Option Tables) (tables : Tables) (n : Network)
    (h : Happening) (act : Act A) (r : Report A) → ((t : Tables) → its ≡ Some t → t ≡ tables)
    → reports.Matches net number its n h act r → reports.Matches net number (Some tables) n h act r
with_tables A net number its tables n h act r same m =
    record {
      draws_it = m.draws_it;
      expires_it = m.expires_it;
      hands_up = m.hands_up;
      takes_in = m.takes_in;
      begins_as = m.begins_as;
      answers_as = as_it_is h m.answers_as;
      joins = m.joins;
      finishes = m.finishes;
    }
  where
    as_it_is : (h : Happening) → AnswersAs its n h act r → AnswersAs (Some tables) n h act r
    as_it_is (Answers at key packets) g = g
    as_it_is (Serves which packets) g = let p = g.3 in (
      g.0,
      g.1,
      g.2,
      record {
        has = tables;
        are_tables = refl;
        request = p.request;
        was_sent = p.was_sent;
        table = p.table;
        start = p.start;
        asks_from = p.asks_from;
        page = p.page ∙ ap (λ t. page_answer (table_of p.table t) p.start) (same p.has p.are_tables);
      },
    )
    as_it_is h g = tt

-- the machine follows this outcome of a node's step
abbrev pub Good : (A : Type 0) (w : WorldState) (c : Cable) (m : AtpMachine) (wires : List Wire) → AtpTie A w c wires m
    → Event A → Outcome A NodeState → Type 0
Good A w c m wires t e o =
    (m' : AtpMachine) × StepBy c m e o.report m' (reporter_of o.report)
    × (now : AtpTie A (recorded w (node_of e) o.report o.state (map posted o.out)) c
    (wires ++ map (wire w.events) o.out) m') × Grown A c m t.history now.history e o.report m'

module _ (A : Type 0) (laws : Laws A) (w : WorldState) (c : Cable) (wires : List Wire) (m : AtpMachine) (e : Event A)
    (n : NodeState) (o : Outcome A NodeState) (t : AtpTie A w c wires m) (stands : node_at w (node_of e) ≡ Some n)
    (h : Happens A t.history c.net (node_of e) n (act_of e) o)
    (mine : SeatTie c (node_of e) o.state) (asked : List Transaction)
    (is_asked : (done A (after A t.history) h.happening).asked ≡ map wired asked)
    (b : Becomes A c m e o.state o.report asked) where
  reading_kept : (j : ℕ) (y : NodeState) (reading : Option ZoneReading) → (node_of e == j) ≡ false
      → IsReading c m j reading → IsReading c (moved m b.tables asked b.readings) j reading
  reading_kept j y None apart r = tt
  reading_kept j y (Some read) apart r = let more = b.still j read.tid r.server apart r.first in
      still_reads c.net c.router m.past b.tables m.asked asked m.readings b.readings j read b.are_tables r
      more.0 more.1 (b.others j apart)

  noted : (d : Option Draw) → (done A (after A t.history) h.happening).drawn
      ≡ (after A t.history).drawn ++ numbers_drawn (after A t.history).event (asking c.net (node_of e)) d
      → AllByRecursion (IsNoted (noted_in w.last (node_of e) w.events d) (w.events + 1))
      (done A (after A t.history) h.happening).drawn
  noted d is = subst (AllByRecursion (IsNoted (noted_in w.last (node_of e) w.events d) (w.events + 1))) (sym is)
      (drawn_too w.last w.events (after A t.history).event c.net (node_of e) d (after A t.history).drawn t.events
      (all_noted w.last w.events (node_of e) d (after A t.history).drawn t.drawn))

  tied_next : (now : AtpTie A (recorded w (node_of e) o.report o.state (map posted o.out)) c
      (wires ++ map (wire w.events) o.out) (moved m b.tables asked b.readings))
      × (now.history ≡ h.happening ∷ t.history)
  tied_next = (
    record {
      are_tables = b.are_tables;
      history = h.happening ∷ t.history;
      timely = (h.timely, t.timely);
      in_range = (h.in_range, t.in_range);
      events = ap (λ i. i + 1) (t.events ∙ sym h.same_event);
      requesters = λ who. h.requesters who
          ∙ put_same (after A t.history).requesters (requester_at c.net w.nodes)
          (asking c.net (node_of e)) o.state.atp.transactions.requester who (t.requesters who)
          ∙ sym (requester_after c.net w.nodes (node_of e) n o.state mine.number stands who);
      responders = λ at. h.responders at
          ∙ put_same (put (after A t.history).responders (serving c.net (node_of e))
          o.state.atp.transactions.service_responder)
          (put (records_at c.net w.nodes) (serving c.net (node_of e)) o.state.atp.transactions.service_responder)
          (zones_at c.net (node_of e)) o.state.atp.zones.zone_responder at
          (put_same (after A t.history).responders (records_at c.net w.nodes)
          (serving c.net (node_of e)) o.state.atp.transactions.service_responder at (t.responders at))
          ∙ sym (records_after c.net w.nodes (node_of e) n o.state mine.number stands at);
      sent = subst (Entries atp_coding (wires ++ map (wire w.events) o.out)) (sym h.sent)
          (entries_both atp_coding wires (map (wire w.events) o.out) (after A t.history).sent h.more t.sent
          (entries_of atp_coding w.events (after A t.history).event o.out h.more t.events h.posts));
      drawn = noted (drawn_by o.report) h.drawn;
      asked = is_asked;
      ask_well = b.ask_well;
      tables = λ j y is. found_after (node_of e) j o.state n y w.nodes (HasTables c b.tables j) mine.number stands is
          (λ same. subst (λ i. HasTables c b.tables i o.state) same b.here)
          (λ apart g. b.elsewhere j y apart (t.tables j y g));
      opened = λ j y is. found_after (node_of e) j o.state n y w.nodes (λ z. IsOpen z.atp) mine.number stands is
          (λ same. h.is_open) (λ apart g. t.opened j y g);
      readings = λ j y is. found_after (node_of e) j o.state n y w.nodes
          (λ z. IsReading c (moved m b.tables asked b.readings) j z.atp.zones.reading) mine.number stands is
          (λ same. subst (λ i. IsReading c (moved m b.tables asked b.readings) i o.state.atp.zones.reading) same
          b.reading)
          (λ apart g. reading_kept j y y.atp.zones.reading apart (t.readings j y g));
      on_net = subst (AllByRecursion (IsOn c.net)) is_asked h.on_net;
    },
    refl,
  )

  pub good_next : Good A w c m wires t e o
  good_next = let now = tied_next in (
    moved m b.tables asked b.readings,
    b.allows,
    now.0,
    (
      h.happening,
      now.1,
      with_tables A c.net (node_of e) n.atp.zones.tables m.tables (after A t.history) h.happening
          (act_of e) o.report (λ tables is. (t.tables (node_of e) n stands tables is).0) h.matches,
      (h.more, h.sent),
      b.spelled,
    ),
  )

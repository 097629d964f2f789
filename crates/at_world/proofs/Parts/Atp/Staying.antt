-- What a step leaves as it was in the machine: the tables, and the readings of all nodes.
use Rattle.std.proofs.Common.{◌≡◌, ℕ, true, false, List, ◌∷◌, map, Option, Some, None, refl, sym, ap, subst, ◌∙◌}
use Rattle.std.specs.Prelude.{◌==◌, ◌&&◌}
use Rattle.std.proofs.lemmas.Bool.{false≢true, eq-eqb}
use Rattle.at_ddp.specs.Address.{same_address}
use Rattle.at_ddp.specs.declared.address.Address.{Address}
use Rattle.at_atp.specs.Transactions as atp
use Rattle.at_zip.specs.Tables.{Tables, AreTables}
use Rattle.at_zone_socket.specs.ZoneSockets.{Reading as ZoneReading, zones_at}
use Rattle.at_transaction_socket.specs.TransactionSockets.{asking}
use Rattle.at_node.specs.Nodes.{NodeState}
use Rattle.at_event.specs.Kinds.{reporter_of}
use Rattle.at_event.specs.declared.Report.{Report}
use Rattle.at_event.specs.declared.Report.TheVariants as report
use Rattle.at_event.specs.declared.transactions.TransactionReport.TheVariants as atp_report
use Rattle.at_event.specs.declared.zones.ZoneReport.TheVariants as zip_report
use Rattle.at_event.specs.declared.Timer.TheVariants as timer
use Rattle.at_event.specs.declared.transactions.TransactionTimer.TheVariants as atp_timer
use Rattle.at_steps.specs.Acts.{Act, Calls, Fires, Gets, Forges}
use Rattle.at_steps.specs.AtpHappenings.{sets_table}
use Rattle.at_steps.specs.AtpSteps.{Change, is_plain}
use Rattle.at_world.specs.Machine.AtpGuards.{AtpMachine, StepBy, next}
use Rattle.at_world.specs.Cables.{Cable, IsSaid}
use Rattle.at_world.specs.Events.{act_of, node_of}
use Rattle.at_world.specs.Transactions.{Transaction, is_transaction}
use Rattle.at_world.specs.Worlds.{WorldState, node_at}
use Rattle.at_setup.specs.declared.event.Event.{Event}
use Rattle.at_setup.specs.declared.event.Event.TheVariants as event
use Rattle.at_world.proofs.CableTie.{Wire}
use Rattle.at_world.proofs.Parts.Atp.OnWire.{AskWell, wired}
use Rattle.at_world.proofs.Parts.Atp.Readings.{StaysAsked, all_stays, drawn_stays, still_reads}
use Rattle.at_world.proofs.Parts.Atp.Tie.{Laws, Spelled, Stepped, HasTables, IsReading, AtpTie, moved}

-- what a step is in words of transactions
abbrev pub in_words : {A : Type 0} → AtpMachine → Event A → NodeState → NodeState → Report A
    → List atp.Transaction → Change A
in_words m e n x r ts =
    record { asked = map wired m.asked; now_asked = ts; part = n.atp; now = x.atp; act = act_of e; report = r }

-- the machine says this of an event, as a report that there is, and what it serves is spelled
abbrev pub Allows : {A : Type 0} → Cable → AtpMachine → Event A → Report A → AtpMachine → Type 0
Allows c m e r m' = IsSaid e r × StepBy c m e r m' (reporter_of r) × Spelled c m e r m'

pub so_at : (A : Type 0) (c : Cable) (m m' : AtpMachine) (e e' : Event A) (r r' : Report A) → e ≡ e' → r ≡ r'
    → Allows c m e' r' m' → Allows c m e r m'
so_at A c m m' e e' r r' same told allows =
    subst (λ x. Allows c m x r m') (sym same) (subst (λ x. Allows c m e' x m') (sym told) allows)

-- a report that says nothing of transactions leaves the machine as it was
pub plainly : (A : Type 0) (c : Cable) (m : AtpMachine) (e : Event A) (r : Report A) → is_plain (act_of e) r ≡ true
    → Allows c m e r (next m)
plainly A c m (event.Call node call) (report.Refused number) h = (tt, refl, tt)
plainly A c m (event.Call node call) report.NoMemory h = (tt, refl, tt)
plainly A c m (event.Deliver which node) (report.Refused number) h = (tt, refl, tt)
plainly A c m (event.Deliver which node) report.NoMemory h = (tt, refl, tt)
plainly A c m (event.Timer node time) (report.Refused number) h = (tt, refl, tt)
plainly A c m (event.Timer node time) report.NoMemory h = (tt, refl, tt)
plainly A c m (event.Forge node bytes) (report.Refused number) h = (tt, refl, tt)
plainly A c m (event.Forge node bytes) report.NoMemory h = (tt, refl, tt)
plainly A c m (event.Deliver which node) report.Ignored h = (tt, refl, tt)
plainly A c m (event.Deliver which node) report.Again h = (tt, refl, tt)
plainly A c m (event.Deliver which node) (report.Transactions atp_report.Kept) h = (tt, refl, tt)
plainly A c m (event.Deliver which node) (report.Transactions atp_report.Released) h = (tt, refl, tt)
plainly A c m (event.Timer node time) report.Again h = (tt, refl, tt)
plainly A c m (event.Timer node time) (report.Transactions (atp_report.Failed tid)) h = (tt, refl, tt)
plainly A c m (event.Timer node (timer.Transactions (atp_timer.Release own key)))
    (report.Transactions atp_report.Expired) h =
    (tt, refl, tt)
plainly A c m e r h = absurd (false≢true h)

-- nor does it set a table
pub plain_sets_none : {A : Type 0} (act : Act A) (r : Report A) → is_plain act r ≡ true → sets_table r ≡ false
plain_sets_none (Calls call) (report.Zones zip_report.TableSet) h = absurd (false≢true h)
plain_sets_none (Gets which) (report.Zones zip_report.TableSet) h = absurd (false≢true h)
plain_sets_none (Fires time) (report.Zones zip_report.TableSet) h = absurd (false≢true h)
plain_sets_none Forges (report.Zones zip_report.TableSet) h = absurd (false≢true h)
plain_sets_none act r h = refl

module _ (A : Type 0) (laws : Laws A) (w : WorldState) (cable : Cable) (m : AtpMachine) (wires : List Wire)
    (e : Event A) (n x : NodeState) (r : Report A) (t : AtpTie A w cable wires m)
    (stands : node_at w (node_of e) ≡ Some n)
    (keeps : sets_table r ≡ false → x.atp.zones.tables ≡ n.atp.zones.tables) where
  -- ---- readings and tables that stay

  -- the newest transaction by which the node reads stays what it was
  abbrev pub StaysMine : Tables → List Transaction → Type 0
  StaysMine tables ts = (read : ZoneReading) (server : ℕ) → n.atp.zones.reading ≡ Some read
      → StaysAsked tables m.asked ts (asking cable.net (node_of e)) read.tid (zones_at cable.net server)

  -- and so do those of the other nodes
  abbrev pub StaysTheirs : Tables → List Transaction → Type 0
  StaysTheirs tables ts = (j tid server : ℕ) → (node_of e == j) ≡ false
      → StaysAsked tables m.asked ts (asking cable.net j) tid (zones_at cable.net server)

  pub still_mine : (tables : Tables) (ts : List Transaction) → AreTables tables → StaysMine tables ts
      → IsReading cable (moved m tables ts m.readings) (node_of e) n.atp.zones.reading
  still_mine tables ts are stays = go n.atp.zones.reading (t.readings (node_of e) n stands) stays
    where
      go : (reading : Option ZoneReading) → IsReading cable m (node_of e) reading
          → ((read : ZoneReading) (server : ℕ) → reading ≡ Some read
          → StaysAsked tables m.asked ts (asking cable.net (node_of e)) read.tid (zones_at cable.net server))
          → IsReading cable (moved m tables ts m.readings) (node_of e) reading
      go None h same = tt
      go (Some read) h same = let more = same read h.server refl h.first in
          still_reads cable.net cable.router m.past tables m.asked ts m.readings m.readings
          (node_of e) read are h more.0 more.1 refl

  pub tables_kept : sets_table r ≡ false → HasTables cable m.tables (node_of e) x
  tables_kept none tables is = t.tables (node_of e) n stands tables (sym (keeps none) ∙ is)

  -- the tables stay, and so does the reading of the node
  pub goes_by : (ts : List Transaction) (now : List atp.Transaction) → now ≡ map wired ts → AskWell ts
      → x.atp.zones.reading ≡ n.atp.zones.reading → sets_table r ≡ false → StaysMine m.tables ts → StaysTheirs m.tables
      ts
      → Allows cable m e r (moved m m.tables ts m.readings) → IsSaid e r × Stepped A cable m e x r now
  goes_by ts now same well reading none mine theirs allows = (
    allows.0,
    record {
      asked = ts;
      on_wire = same;
      becomes = record {
        tables = m.tables;
        are_tables = t.are_tables;
        readings = m.readings;
        ask_well = well;
        allows = allows.1;
        spelled = allows.2;
        here = tables_kept none;
        elsewhere = λ j y apart h. h;
        reading = subst (IsReading cable (moved m m.tables ts m.readings) (node_of e)) (sym reading)
            (still_mine m.tables ts t.are_tables mine);
        others = λ j apart. refl;
        still = theirs;
      };
    },
  )

  pub nothing_asked : (now : List atp.Transaction) → now ≡ map wired m.asked → x.atp.zones.reading ≡ n.atp.zones.reading
      → sets_table r ≡ false → Allows cable m e r (next m) → IsSaid e r × Stepped A cable m e x r now
  nothing_asked now same reading none allows =
      goes_by m.asked now same t.ask_well reading none
      (λ read server is. all_stays m.tables m.asked (asking cable.net (node_of e)) read.tid (zones_at cable.net server))
      (λ j tid server apart. all_stays m.tables m.asked (asking cable.net j) tid (zones_at cable.net server))
      allows

  -- ---- beginnings

  -- a transaction of another node is not the new one
  apart_from : (j tid : ℕ) (new : Transaction) → new.requester ≡ asking cable.net (node_of e) → (node_of e == j)
      ≡ false → is_transaction (asking cable.net j) tid new ≡ false
  apart_from j tid new is apart = ap (λ (y : Address). same_address y (asking cable.net j) && (new.tid == tid)) is
      ∙ (λ i. eq-eqb cable.net cable.net refl i && apart i && true && (new.tid == tid))

  pub still_theirs : (new : Transaction) → new.requester ≡ asking cable.net (node_of e)
      → StaysTheirs m.tables (new ∷ m.asked)
  still_theirs new is j tid server apart = drawn_stays m.tables m.asked new (asking cable.net j) tid
      (zones_at cable.net server) (apart_from j tid new is apart)

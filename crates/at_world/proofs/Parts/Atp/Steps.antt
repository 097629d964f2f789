-- What each kind of step of a node is in the machine.
use Rattle.std.proofs.Common.{◌≡◌, ℕ, false, List, ◌∷◌, map, Some, refl, sym, ap, subst, ◌∙◌}
use Rattle.std.specs.Prelude.{◌&&◌}
use Rattle.std.proofs.lemmas.Bool.{false≢true, eq-eqb}
use Rattle.at_ddp.specs.declared.address.Address.{Address}
use Rattle.at_ddp.proofs.Octets.{same_address_itself}
use Rattle.at_atp.specs.Transactions as atp
use Rattle.at_zip.specs.Tables.{Tables, AreTables, with_table}
use Rattle.at_zone_socket.specs.AtpParts.{AtpState}
use Rattle.at_transaction_socket.specs.TransactionSockets.{asking, serving}
use Rattle.at_zone_socket.specs.ZoneSockets.{zones_at}
use Rattle.at_node.specs.Nodes.{NodeState}
use Rattle.at_event.specs.Kinds.{reporter_of}
use Rattle.at_event.specs.declared.Call.TheVariants.{Transactions, Zones}
use Rattle.at_event.specs.declared.transactions.TransactionCall.TheVariants.{Ask}
use Rattle.at_event.specs.declared.zones.ZoneCall.TheVariants as zone
use Rattle.at_event.specs.declared.Report.{Report}
use Rattle.at_event.specs.declared.Report.TheVariants as report
use Rattle.at_event.specs.declared.transactions.TransactionReport.TheVariants as atp_report
use Rattle.at_event.specs.declared.zones.ZoneReport.TheVariants as zip_report
use Rattle.at_steps.specs.AtpHappenings.{sets_table, is_atp}
use Rattle.at_steps.specs.AtpSteps as steps
use Rattle.at_steps.specs.AtpSteps.{IsPlain, BeginsAsking, SetsTable}
use Rattle.at_steps.specs.AtpSteps.{HandsUp, Finishes}
use Rattle.at_steps.specs.AtpSteps.{IsStep}
use Rattle.at_world.specs.Machine.AtpGuards.{AtpMachine, StepBy, next}
use Rattle.at_world.specs.Agreements.{on_wire}
use Rattle.at_world.specs.Cables.{Cable, IsSaid}
use Rattle.at_world.specs.Events.{act_of, node_of}
use Rattle.at_world.specs.Transactions.{ForService, Transaction, Asked, IsResponse, new_transaction, transaction_of}
use Rattle.at_world.specs.Worlds.{WorldState, node_at}
use Rattle.at_setup.specs.declared.event.Event.{Event}
use Rattle.at_setup.specs.declared.event.Event.TheVariants as event
use Rattle.at_world.proofs.Acts.{called_at, delivered_at}
use Rattle.at_world.proofs.CableTie.{Wire}
use Rattle.at_world.proofs.Parts.Atp.OnWire.{wired, asked_unwired, asks_service}
use Rattle.at_world.proofs.Parts.Atp.OnWire.{is_response, newest_asks_well, unwired}
use Rattle.at_world.proofs.Parts.Atp.Readings.{all_stays, drawn_stays}
use Rattle.at_world.proofs.Parts.Atp.Tie.{Laws, IsReading, AtpTie, Spelled, Stepped, moved}
use Rattle.at_world.proofs.Parts.Atp.Staying.{Allows, in_words, so_at, plainly, plain_sets_none, still_mine, goes_by}
use Rattle.at_world.proofs.Parts.Atp.Staying.{nothing_asked}
use Rattle.at_world.proofs.Parts.Atp.Staying.{still_theirs, StaysMine}
use Rattle.at_world.proofs.Parts.Atp.ReadingSteps.{fails_step, reading_ends_step, reads_step, turns_step}
use Rattle.at_world.proofs.Parts.Atp.AnswerSteps.{answers_step, serves_step}

module _ (A : Type 0) (laws : Laws A) (w : WorldState) (cable : Cable) (m : AtpMachine) (wires : List Wire)
    (e : Event A) (n x : NodeState) (r : Report A) (t : AtpTie A w cable wires m)
    (stands : node_at w (node_of e) ≡ Some n)
    (keeps : sets_table r ≡ false → x.atp.zones.tables ≡ n.atp.zones.tables) where
  plain_step : (ts : List atp.Transaction) → IsPlain (in_words m e n x r ts) → IsSaid e r × Stepped A cable m e x r ts
  plain_step ts p = nothing_asked A laws w cable m wires e n x r t stands keeps ts p.asked p.reading
      (plain_sets_none (act_of e) r p.plain) (plainly A cable m e r p.plain)

  delivers_step : (ts : List atp.Transaction) → HandsUp cable.net (node_of e) (in_words m e n x r ts) → IsSaid e r
      × Stepped A cable m e x r ts
  delivers_step ts s = nothing_asked A laws w cable m wires e n x r t stands keeps ts s.asked s.reading
      (ap sets_table s.report)
      (so_at A cable m (next m) e (event.Deliver s.datagram (node_of e)) r
      (report.Transactions (atp_report.Asked s.key s.user s.bytes))
      (delivered_at e s.datagram s.act) s.report
      (tt, (record { asked = mine.0; asks = asks }, refl), tt))
    where
      mine : (b : Asked m.asked (s.key).from (s.key).tid (serving cable.net (node_of e)))
          × ((s.newest).transaction ≡ wired b.transaction)
      mine = asked_unwired m.asked (s.key).from (s.key).tid (serving cable.net (node_of e)) s.newest

      asks : ((mine.0).transaction).asks ≡ ForService s.user s.bytes
      asks =
          let u = (mine.0).transaction in
          asks_service u.asks u.responder
          (newest_asks_well m.asked (s.key).from (s.key).tid u t.ask_well (mine.0).newest)
          (ap (λ (y : Address). y.socket) (mine.0).asked_it) s.user s.bytes
          (ap (λ (y : atp.Transaction). y.user) (sym mine.1) ∙ s.is_user)
          (ap (λ (y : atp.Transaction). y.data_) (sym mine.1) ∙ s.is_data)

  ends_step : (ts : List atp.Transaction) → Finishes cable.net (node_of e) (in_words m e n x r ts) → IsSaid e r
      × Stepped A cable m e x r ts
  ends_step ts s = nothing_asked A laws w cable m wires e n x r t stands keeps ts s.asked s.reading
      (ap sets_table s.report)
      (so_at A cable m (next m) e (event.Deliver s.datagram (node_of e)) r
      (report.Transactions (atp_report.Response s.tid s.packets))
      (delivered_at e s.datagram s.act) s.report
      (tt, (record { transaction = mine.0; newest = mine.1; response = response }, refl), tt))
    where
      mine : (u : Transaction) × (transaction_of m.asked (asking cable.net (node_of e)) s.tid ≡ Some u)
          × (s.transaction ≡ wired u)
      mine = unwired m.asked (asking cable.net (node_of e)) s.tid s.transaction s.newest

      response : IsResponse mine.0 s.packets
      response = is_response mine.0 s.packets
          (subst (λ (y : atp.Transaction). atp.IsResponse y s.packets) mine.2 s.response)

  -- ---- a table that is set

  sets_step : (ts : List atp.Transaction) → SetsTable (in_words m e n x r ts) → IsSaid e r × Stepped A cable m e x r ts
  sets_step ts s = (
    allows.0,
    record {
      asked = m.asked;
      on_wire = s.asked;
      becomes = record {
        tables = tables;
        are_tables = are;
        readings = m.readings;
        ask_well = t.ask_well;
        allows = allows.1;
        spelled = allows.2;
        here = λ now is. (
          some_tables now tables
              (sym is ∙ s.becomes ∙ ap (λ t. Some (with_table s.which s.names t)) whole.0),
          whole.1,
        );
        elsewhere = λ j y apart has now is. absurd
            (false≢true (sym apart ∙ eq-eqb (node_of e) j (some_number (node_of e) j (sym whole.1 ∙ (has now is).1))));
        reading = subst (IsReading cable (moved m tables m.asked m.readings) (node_of e)) (sym s.reading)
            (still_mine A laws w cable m wires e n x r t stands keeps tables m.asked are
            (λ read server is. all_stays tables m.asked (asking cable.net (node_of e)) read.tid
            (zones_at cable.net server)));
        others = λ j apart. refl;
        still = λ j tid server apart. all_stays tables m.asked (asking cable.net j) tid (zones_at cable.net server);
      };
    },
  )
    where
      whole : (s.tables ≡ m.tables) × (cable.router ≡ Some (node_of e))
      whole = t.tables (node_of e) n stands s.tables s.was

      tables : Tables
      tables = with_table s.which s.names m.tables

      are : AreTables tables
      are = laws.reading.sets s.which s.names m.tables s.is_table t.are_tables

      some_tables : (a b : Tables) → Some a ≡ Some b → a ≡ b
      some_tables a b h = cc

      some_number : (a b : ℕ) → Some a ≡ Some b → a ≡ b
      some_number a b h = cc

      allows : Allows cable m e r (moved m tables m.asked m.readings)
      allows = so_at A cable m (moved m tables m.asked m.readings) e
          (event.Call (node_of e) (Zones (zone.Set s.which s.names))) r (report.Zones zip_report.TableSet)
          (called_at e (Zones (zone.Set s.which s.names)) s.act) s.report
          (tt, record { is_router = whole.1; is_table = s.is_table; becomes = refl }, tt)

  -- ---- beginnings

  begins_step : (ts : List atp.Transaction) → BeginsAsking cable.net (node_of e) (in_words m e n x r ts) → IsSaid e r
      × Stepped A cable m e x r ts
  begins_step ts s =
      goes_by A laws w cable m wires e n x r t stands keeps (new ∷ m.asked) ts s.asked (tt, t.ask_well) s.reading
      (ap sets_table s.report) mine (still_theirs A laws w cable m wires e n x r t stands keeps new refl)
      (so_at A cable m (moved m m.tables (new ∷ m.asked) m.readings) e
      (event.Call (node_of e) (Transactions (Ask s.node s.socket s.user s.bytes s.wanted s.xo s.retries))) r
      (report.Transactions (atp_report.Begun s.tid))
      (called_at e (Transactions (Ask s.node s.socket s.user s.bytes s.wanted s.xo s.retries)) s.act) s.report
      (tt, refl, tt))
    where
      new : Transaction
      new = new_transaction (asking cable.net (node_of e)) s.tid
          (record { net = cable.net; node = s.node; socket = s.socket }) (ForService s.user s.bytes) s.wanted s.xo

      mine : StaysMine A laws w cable m wires e n x r t stands keeps m.tables (new ∷ m.asked)
      mine read server is = drawn_stays m.tables m.asked new (asking cable.net (node_of e)) read.tid
          (zones_at cable.net server) (λ i. same_address_itself (asking cable.net (node_of e)) i && s.apart read is i)

  -- ---- each of them

  pub step_becomes : n.seat.router ≡ cable.router → (ts : List atp.Transaction)
      → IsStep cable.net (node_of e) n.seat.router (in_words m e n x r ts) → IsSaid e r × Stepped A cable m e x r ts
  step_becomes routed ts (steps.Plain s) = plain_step ts s
  step_becomes routed ts (steps.Begins s) = begins_step ts s
  step_becomes routed ts (steps.Reads s) = reads_step A laws w cable m wires e n x r t stands keeps routed ts s
  step_becomes routed ts (steps.Answers s) = answers_step A laws w cable m wires e n x r t stands keeps ts s
  step_becomes routed ts (steps.Serves s) = serves_step A laws w cable m wires e n x r t stands keeps ts s
  step_becomes routed ts (steps.Delivers s) = delivers_step ts s
  step_becomes routed ts (steps.Ends s) = ends_step ts s
  step_becomes routed ts (steps.Sets s) = sets_step ts s
  step_becomes routed ts (steps.Turns s) = turns_step A laws w cable m wires e n x r t stands keeps ts s
  step_becomes routed ts (steps.HasRead s) = reading_ends_step A laws w cable m wires e n x r t stands keeps ts s
  step_becomes routed ts (steps.Fails s) = fails_step A laws w cable m wires e n x r t stands keeps ts s

  -- a report of another protocol serves nothing
  nothing_served : is_atp (reporter_of r) ≡ false → Spelled cable m e r (next m)
  nothing_served other = go e r other
    where
      go : (e : Event A) (r : Report A) → is_atp (reporter_of r) ≡ false → Spelled cable m e r (next m)
      go (event.Deliver which node) (report.Zones (zip_report.Served count)) h = absurd (false≢true (sym h))
      go e r h = tt

  -- a step of another protocol
  pub pass_becomes : (ts : List atp.Transaction) → ts ≡ map wired m.asked → x.atp ≡ n.atp
      → is_atp (reporter_of r) ≡ false → StepBy cable m e r (next m) (reporter_of r) → Stepped A cable m e x r ts
  pass_becomes ts same part other allows = record {
    asked = m.asked;
    on_wire = same;
    becomes = record {
      tables = m.tables;
      are_tables = t.are_tables;
      readings = m.readings;
      ask_well = t.ask_well;
      allows = allows;
      spelled = nothing_served other;
      here = λ tables is. t.tables (node_of e) n stands tables (ap (λ (a : AtpState). a.zones.tables) (sym part) ∙ is);
      elsewhere = λ j y apart h. h;
      reading = subst (IsReading cable (moved m m.tables m.asked m.readings) (node_of e))
          (ap (λ (a : AtpState). a.zones.reading) (sym part))
          (still_mine A laws w cable m wires e n x r t stands keeps m.tables m.asked t.are_tables
          (λ read server is. all_stays m.tables m.asked (asking cable.net (node_of e)) read.tid
          (zones_at cable.net server)));
      others = λ j apart. refl;
      still = λ j tid server apart. all_stays m.tables m.asked (asking cable.net j) tid (zones_at cable.net server);
    };
  }

-- What the steps of a reading of a zone table are in the machine.
use Rattle.std.proofs.Common.{◌≤◌, ◌≡◌, ℕ, false, cond, List, [], ◌∷◌, ◌++◌, length, map, Some, None, refl, sym, ap}
use Rattle.std.proofs.Common.{subst, ◌∙◌, arith}
use Rattle.std.specs.Prelude.{find, ◌==◌, ◌&&◌}
use Rattle.std.proofs.lemmas.Bool.{eq-eqb}
use Rattle.at_ddp.proofs.Octets.{same_address_itself}
use Rattle.at_atp.specs.Transactions as atp
use Rattle.std.proofs.lemmas.List.{length-append}
use Rattle.at_zip.specs.Reading.{BeginsTable}
use Rattle.at_zip.specs.Tables.{table_of}
use Rattle.at_zip.specs.declared.request.TableChoice.{TableChoice}
use Rattle.at_zone_socket.specs.ZoneSockets.{Reading as ZoneReading, zones_at}
use Rattle.at_transaction_socket.specs.TransactionSockets.{asking}
use Rattle.at_node.specs.Nodes.{NodeState}
use Rattle.at_event.specs.declared.Call.TheVariants.{Zones}
use Rattle.at_event.specs.declared.zones.ZoneCall.TheVariants as zone
use Rattle.at_event.specs.declared.Report.{Report}
use Rattle.at_event.specs.declared.Report.TheVariants as report
use Rattle.at_event.specs.declared.transactions.TransactionReport.TheVariants as atp_report
use Rattle.at_event.specs.declared.zones.ZoneReport.TheVariants as zip_report
use Rattle.at_steps.specs.AtpHappenings.{sets_table}
use Rattle.at_steps.specs.AtpSteps as steps
use Rattle.at_steps.specs.AtpSteps.{ComesToReading, BeginsReading, TurnsPage, EndsReading, FailsReading, Tells}
use Rattle.at_steps.specs.AtpSteps.{All, TooMany, Faulty}
use Rattle.at_world.specs.Machine.AtpGuards.{AtpMachine, Reading, ReadsSince, without_reading}
use Rattle.at_world.specs.Cables.{Cable, IsSaid}
use Rattle.at_world.specs.Events.{node_of}
use Rattle.at_world.specs.Transactions.{Transaction, page_asked, transaction_of}
use Rattle.at_world.specs.Worlds.{WorldState, node_at}
use Rattle.at_setup.specs.declared.event.Event.{Event}
use Rattle.at_setup.specs.declared.event.Event.TheVariants as event
use Rattle.at_world.proofs.Acts.{called_at, delivered_at, fired_at}
use Rattle.at_world.proofs.CableTie.{Wire}
use Rattle.at_world.proofs.Parts.Atp.Lists.{no_answers, others_left}
use Rattle.at_world.proofs.Parts.Atp.OnWire.{page_fits, wired}
use Rattle.at_world.proofs.Parts.Atp.Readings.{Reads, all_stays, longer}
use Rattle.at_world.proofs.Parts.Atp.PageSteps.{comes_from_router, fits, goes_on, has_all}
use Rattle.at_world.proofs.Parts.Atp.PageSteps.{no_fault}
use Rattle.at_world.proofs.Parts.Atp.Readings.{HasStood, has_stood, stood_before}
use Rattle.at_world.proofs.Parts.Atp.Tie.{Laws, IsReading, AtpTie, Stepped, moved}
use Rattle.at_world.proofs.Parts.Atp.Staying.{Allows, in_words, so_at, tables_kept, still_theirs}

module _ (A : Type 0) (laws : Laws A) (w : WorldState) (cable : Cable) (m : AtpMachine) (wires : List Wire)
    (e : Event A) (n x : NodeState) (r : Report A) (t : AtpTie A w cable wires m)
    (stands : node_at w (node_of e) ≡ Some n)
    (keeps : sets_table r ≡ false → x.atp.zones.tables ≡ n.atp.zones.tables) where
  -- ---- readings that end

  no_longer : (ts : List atp.Transaction) → ts ≡ map wired m.asked → x.atp.zones.reading ≡ None → sets_table r ≡ false
      → Allows cable m e r (moved m m.tables m.asked (without_reading m.readings (node_of e))) → IsSaid e r
      × Stepped A cable m e x r ts
  no_longer ts same none sets allows = (
    allows.0,
    record {
      asked = m.asked;
      on_wire = same;
      becomes = record {
        tables = m.tables;
        are_tables = t.are_tables;
        readings = without_reading m.readings (node_of e);
        ask_well = t.ask_well;
        allows = allows.1;
        spelled = allows.2;
        here = tables_kept A laws w cable m wires e n x r t stands keeps sets;
        elsewhere = λ j y apart h. h;
        reading = subst
            (IsReading cable (moved m m.tables m.asked (without_reading m.readings (node_of e))) (node_of e))
            (sym none) tt;
        others = λ j apart. others_left m.readings (node_of e) j apart;
        still = λ j tid server apart. all_stays m.tables m.asked (asking cable.net j) tid (zones_at cable.net server);
      };
    },
  )

  reads : (read : ZoneReading) → n.atp.zones.reading ≡ Some read
      → Reads cable.net cable.router m.past m.asked m.readings (node_of e) read
  reads read is = subst (IsReading cable m (node_of e)) is (t.readings (node_of e) n stands)

  pub fails_step : (ts : List atp.Transaction) → FailsReading (in_words m e n x r ts)
      → IsSaid e r × Stepped A cable m e x r ts
  fails_step ts s =
      let its = reads s.read s.reads in
      no_longer ts s.asked s.reading (ap sets_table s.report)
      (so_at A cable m (moved m m.tables m.asked (without_reading m.readings (node_of e))) e
      (event.Timer (node_of e) s.time) r (report.Zones zip_report.Unanswered) (fired_at e s.time s.act) s.report
      (tt, record { which = s.read.which; since = its.since; began = its.began; becomes = refl }, tt))

  pub reading_ends_step : (ts : List atp.Transaction) → EndsReading cable.net (node_of e) (in_words m e n x r ts)
      → IsSaid e r
      × Stepped A cable m e x r ts
  reading_ends_step ts s = go s.tells
    where
      came : ComesToReading cable.net (node_of e) (in_words m e n x r ts)
      came = s.came

      its : Reads cable.net cable.router m.past m.asked m.readings (node_of e) came.read
      its = reads came.read came.reads

      go : Tells (came.read).which (came.read).names came.packet r → IsSaid e r × Stepped A cable m e x r ts
      go (All h) =
          no_longer ts s.asked s.reading (ap sets_table h.tells)
          (so_at A cable m (moved m m.tables m.asked (without_reading m.readings (node_of e))) e
          (event.Deliver came.datagram (node_of e)) r (report.Zones (zip_report.List (came.read).which
          ((came.read).names
          ++ (h.page).names)))
          (delivered_at e came.datagram came.act) h.tells (
            tt,
            record {
              since = its.since;
              began = its.began;
              tells = λ stood. has_all laws.reading cable.net cable.router m.past m.asked m.readings
                  (node_of e) came.read its came.from came.newest came.place came.ends came.packet came.part h.page
                  h.spelled h.last (table_of (came.read).which m.tables)
                  (has_stood m.past its.since (came.read).which (table_of (came.read).which m.tables) stood);
              becomes = refl;
            },
            tt,
          ))
      go (TooMany h) =
          let few = fits laws.reading cable.net cable.router m.past m.asked m.readings
          (node_of e) came.read its came.from came.newest came.place came.ends came.packet came.part h.page
          h.spelled in
          let many = h.many in
          absurd (omega (arith, few, many))
      go (Faulty h) = absurd (no_fault laws.reading cable.net cable.router m.past m.asked m.readings
          (node_of e) came.read its came.from came.newest came.place came.ends came.packet came.part h.fault h.first)

  -- ---- readings that begin and go on

  -- the node asks the router for the page after these names
  asks_page : (server : ℕ) (kind : TableChoice) (tid : ℕ) (names : List (List ℕ)) (readings : List Reading) (since : ℕ)
      → cable.router ≡ Some server → length names ≤ 1024 → ReadsSince readings (node_of e) kind since
      → since ≤ length m.past →
      ((table : List (List ℕ)) → HasStood (m.past ++ m.tables ∷ []) since kind table → BeginsTable table names)
      → IsReading cable (moved m m.tables
      (page_asked cable.net (node_of e) (zones_at cable.net server) kind names tid ∷ m.asked) readings) (node_of e)
      (Some (record { which = kind; tid = tid; names = names }))
  asks_page server kind tid names readings since is_router few began begun begins = record {
    server = server;
    is_router = is_router;
    first = record {
      transaction = page_asked cable.net (node_of e) (zones_at cable.net server) kind names tid;
      newest = λ i. cond (same_address_itself (asking cable.net (node_of e)) i && eq-eqb tid tid refl i)
          (Some (page_asked cable.net (node_of e) (zones_at cable.net server) kind names tid))
          (transaction_of m.asked (asking cable.net (node_of e)) tid);
      asked_it = refl;
    };
    asks = refl;
    xo = refl;
    few = few;
    since = since;
    began = began;
    begun = omega (arith, begun, longer m.past m.tables);
    begins = begins;
    pages = λ answer among. no_answers answer among;
  }

  pub reads_step : n.seat.router ≡ cable.router → (ts : List atp.Transaction)
      → BeginsReading cable.net (node_of e) n.seat.router (in_words m e n x r ts)
      → IsSaid e r × Stepped A cable m e x r ts
  reads_step routed ts s = (
    allows.0,
    record {
      asked = new ∷ m.asked;
      on_wire = s.asked;
      becomes = record {
        tables = m.tables;
        are_tables = t.are_tables;
        readings = readings;
        ask_well = (page_fits s.which [] (zones_at cable.net s.server) (omega arith) refl, t.ask_well);
        allows = allows.1;
        spelled = allows.2;
        here = tables_kept A laws w cable m wires e n x r t stands keeps (ap sets_table s.report);
        elsewhere = λ j y apart h. h;
        reading = subst (IsReading cable (moved m m.tables (new ∷ m.asked) readings) (node_of e)) (sym s.reading)
            (asks_page s.server s.which s.tid [] readings (length m.past) is_router (omega arith)
            (ap (λ b. cond b (Some (record { node = node_of e; which = s.which; since = length m.past }))
            (find (λ (y : Reading). y.node == node_of e) m.readings)) (eq-eqb (node_of e) (node_of e) refl))
            (omega arith) (λ table stood. record { rest = table; begins = refl }));
        others =
            λ j apart. ap (λ b. cond b (Some (record { node = node_of e; which = s.which; since = length m.past }))
            (find (λ (y : Reading). y.node == j) m.readings)) apart;
        still = still_theirs A laws w cable m wires e n x r t stands keeps new refl;
      };
    },
  )
    where
      is_router : cable.router ≡ Some s.server
      is_router = sym routed ∙ s.is_router

      new : Transaction
      new = page_asked cable.net (node_of e) (zones_at cable.net s.server) s.which [] s.tid

      readings : List Reading
      readings = record { node = node_of e; which = s.which; since = length m.past } ∷ m.readings

      allows : Allows cable m e r (moved m m.tables (new ∷ m.asked) readings)
      allows =
          so_at A cable m (moved m m.tables (new ∷ m.asked) readings) e
          (event.Call (node_of e) (Zones (zone.Read s.which))) r
          (report.Transactions (atp_report.Begun s.tid)) (called_at e (Zones (zone.Read s.which)) s.act) s.report
          (tt, record { router = s.server; is_router = is_router; becomes = refl }, tt)

  -- a page came that is not the last
  pub turns_step : (ts : List atp.Transaction) → TurnsPage cable.net (node_of e) (in_words m e n x r ts) → IsSaid e r
      × Stepped A cable m e x r ts
  turns_step ts s = (
    allows.0,
    record {
      asked = new ∷ m.asked;
      on_wire = s.asked
          ∙ ap (λ a. steps.page_asked cable.net (node_of e) a kind names s.tid ∷ map wired m.asked) from_router;
      becomes = record {
        tables = m.tables;
        are_tables = t.are_tables;
        readings = m.readings;
        ask_well = (page_fits kind names (zones_at cable.net its.server) few refl, t.ask_well);
        allows = allows.1;
        spelled = allows.2;
        here = tables_kept A laws w cable m wires e n x r t stands keeps (ap sets_table s.report);
        elsewhere = λ j y apart h. h;
        reading = subst (IsReading cable (moved m m.tables (new ∷ m.asked) m.readings) (node_of e)) (sym s.reading)
            (asks_page its.server kind s.tid names m.readings its.since its.is_router few its.began
            (let lt = its.begun in omega (arith, lt))
            (λ table stood. begin table (stood_before m.past m.tables its.since kind table stood)));
        others = λ j apart. refl;
        still = still_theirs A laws w cable m wires e n x r t stands keeps new refl;
      };
    },
  )
    where
      came : ComesToReading cable.net (node_of e) (in_words m e n x r ts)
      came = s.came

      its : Reads cable.net cable.router m.past m.asked m.readings (node_of e) came.read
      its = reads came.read came.reads

      kind : TableChoice
      kind = (came.read).which

      names : List (List ℕ)
      names = (came.read).names ++ (s.page).names

      from_router : came.from ≡ zones_at cable.net its.server
      from_router = comes_from_router laws.reading cable.net cable.router m.past m.asked m.readings
          (node_of e) came.read its came.from came.newest came.place came.ends came.packet came.part

      begin : (table : List (List ℕ)) → HasStood m.past its.since kind table → BeginsTable table names
      begin table stood = goes_on laws.reading cable.net cable.router m.past m.asked m.readings
          (node_of e) came.read its came.from came.newest came.place came.ends came.packet came.part s.page s.spelled
          table stood

      few : length names ≤ 1024
      few = let most = s.few in omega (arith, most, length-append (came.read).names (s.page).names)

      new : Transaction
      new = page_asked cable.net (node_of e) (zones_at cable.net its.server) kind names s.tid

      allows : Allows cable m e r (moved m m.tables (new ∷ m.asked) m.readings)
      allows = so_at A cable m (moved m m.tables (new ∷ m.asked) m.readings) e (event.Deliver came.datagram
          (node_of e)) r
          (report.Transactions (atp_report.Begun s.tid)) (delivered_at e came.datagram came.act) s.report (
            tt,
            record {
              router = its.server;
              is_router = its.is_router;
              which = kind;
              since = its.since;
              began = its.began;
              names = names;
              few = few;
              tells = λ stood. begin (table_of kind m.tables)
                  (has_stood m.past its.since kind (table_of kind m.tables) stood);
              becomes = refl;
            },
            tt,
          )

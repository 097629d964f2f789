-- What an answer of the service, and a page that a router serves, are in the machine.
use Rattle.std.proofs.Common.{◌≡◌, ℕ, false, List, map, Some, refl, sym, ap, subst, ◌∙◌, arith}
use Rattle.at_ddp.specs.declared.address.Address.{Address}
use Rattle.at_atp.specs.Transactions as atp
use Rattle.at_zip.specs.Request.{RequestSpells}
use Rattle.at_zip.specs.Tables.{table_of}
use Rattle.at_zip.specs.declared.request.TableChoice.{TableChoice}
use Rattle.at_transaction_socket.specs.TransactionSockets.{asking, serving}
use Rattle.at_zone_socket.specs.ZoneSockets.{zones_at}
use Rattle.at_node.specs.Nodes.{NodeState}
use Rattle.at_event.specs.declared.Call.TheVariants.{Transactions}
use Rattle.at_event.specs.declared.transactions.TransactionCall.TheVariants.{Answer}
use Rattle.at_event.specs.declared.Report.{Report}
use Rattle.at_event.specs.declared.Report.TheVariants as report
use Rattle.at_event.specs.declared.transactions.TransactionReport.TheVariants as atp_report
use Rattle.at_event.specs.declared.zones.ZoneReport.TheVariants as zip_report
use Rattle.at_steps.specs.AtpHappenings.{sets_table}
use Rattle.at_steps.specs.AtpSteps.{GivesAnswer, ServesPage}
use Rattle.at_steps.specs.AtpSteps.{page_answer}
use Rattle.at_world.specs.Machine.AtpGuards.{AtpMachine, MayAskFor}
use Rattle.at_world.specs.Agreements.{on_wire}
use Rattle.at_world.specs.Cables.{Cable, IsSaid}
use Rattle.at_world.specs.Events.{node_of}
use Rattle.at_world.specs.Transactions.{Transaction, Asked, transaction_of}
use Rattle.at_world.specs.Transactions.{answered}
use Rattle.at_world.specs.Worlds.{WorldState, node_at}
use Rattle.at_setup.specs.declared.event.Event.{Event}
use Rattle.at_setup.specs.declared.event.Event.TheVariants as event
use Rattle.at_world.proofs.Acts.{called_at, delivered_at}
use Rattle.at_world.proofs.CableTie.{Wire}
use Rattle.at_world.proofs.Parts.Atp.OnWire.{wired, answered_ask_well, answered_wired, asked_unwired}
use Rattle.at_world.proofs.Parts.Atp.OnWire.{newest_asks_well}
use Rattle.at_world.proofs.Parts.Atp.Readings.{joined_stays, may_ask}
use Rattle.at_world.proofs.Parts.Atp.Tie.{Laws, AtpTie, Stepped, moved}
use Rattle.at_world.proofs.Parts.Atp.Staying.{in_words, so_at, goes_by}
use Rattle.std.proofs.lemmas.Option.{same_Some}

module _ (A : Type 0) (laws : Laws A) (w : WorldState) (cable : Cable) (m : AtpMachine) (wires : List Wire)
    (e : Event A) (n x : NodeState) (r : Report A) (t : AtpTie A w cable wires m)
    (stands : node_at w (node_of e) ≡ Some n)
    (keeps : sets_table r ≡ false → x.atp.zones.tables ≡ n.atp.zones.tables) where
  pub answers_step : (ts : List atp.Transaction) → GivesAnswer cable.net (node_of e) (in_words m e n x r ts)
      → IsSaid e r
      × Stepped A cable m e x r ts
  answers_step ts s =
      goes_by A laws w cable m wires e n x r t stands keeps (answered m.asked s.key.from s.key.tid s.packets) ts
      (s.asked ∙ answered_wired m.asked s.key.from s.key.tid s.packets)
      (answered_ask_well m.asked s.key.from s.key.tid s.packets t.ask_well) s.reading (ap sets_table s.report)
      (λ read server is. joined_stays m.tables m.asked s.key.from s.key.tid s.packets (asking cable.net (node_of e))
      read.tid
      (zones_at cable.net server) (elsewhere server))
      (λ j tid server apart. joined_stays m.tables m.asked s.key.from s.key.tid s.packets (asking cable.net j) tid
      (zones_at cable.net server) (elsewhere server))
      (so_at A cable m (moved m m.tables (answered m.asked s.key.from s.key.tid s.packets) m.readings) e
      (event.Call (node_of e) (Transactions (Answer s.key s.packets))) r
      (report.Transactions (atp_report.Answered s.count))
      (called_at e (Transactions (Answer s.key s.packets)) s.act) s.report
      (tt, record { asked = mine.0; few = s.few; becomes = refl }, tt))
    where
      mine : (b : Asked m.asked (s.key).from (s.key).tid (serving cable.net (node_of e)))
          × ((s.newest).transaction ≡ wired b.transaction)
      mine = asked_unwired m.asked (s.key).from (s.key).tid (serving cable.net (node_of e)) s.newest

      -- what asked the service did not ask a router for its zones
      elsewhere : (server : ℕ) (u : Transaction) → transaction_of m.asked s.key.from s.key.tid ≡ Some u → u.responder
          ≡ zones_at cable.net server → (which : TableChoice) × (start : ℕ) × MayAskFor u.asks which start
          × (s.packets ≡ page_answer (table_of which m.tables) start)
      elsewhere server u is here =
          let one = same_Some (mine.0).transaction u (sym (mine.0).newest ∙ is) in
          let wrong : 129 ≡ 6 = ap (λ (y : Address). y.socket)
          (sym (mine.0).asked_it ∙ ap (λ (y : Transaction). y.responder) one ∙ here) in
          absurd (omega (arith, wrong))

  pub serves_step : (ts : List atp.Transaction) → ServesPage cable.net (node_of e) (in_words m e n x r ts) → IsSaid e r
      × Stepped A cable m e x r ts
  serves_step ts s =
      goes_by A laws w cable m wires e n x r t stands keeps
      (answered m.asked s.requester s.tid (page_answer table s.start)) ts
      (s.asked ∙ ap (λ l. atp.answered (map wired m.asked) s.requester s.tid (page_answer
      (table_of s.table l) s.start)) whole.0 ∙ answered_wired m.asked s.requester s.tid (page_answer table s.start))
      (answered_ask_well m.asked s.requester s.tid (page_answer table s.start) t.ask_well) s.reading
      (ap sets_table s.report)
      (λ read server is. joined_stays m.tables m.asked s.requester s.tid (page_answer table s.start)
      (asking cable.net (node_of e)) read.tid (zones_at cable.net server) (page server))
      (λ j tid server apart. joined_stays m.tables m.asked s.requester s.tid (page_answer table s.start)
      (asking cable.net j) tid (zones_at cable.net server) (page server))
      (so_at A cable m (moved m m.tables (answered m.asked s.requester s.tid (page_answer table s.start)) m.readings)
      e (event.Deliver s.datagram (node_of e)) r (report.Zones (zip_report.Served s.count))
      (delivered_at e s.datagram s.act)
      s.report (
        tt,
        record {
          is_router = whole.1;
          requester = s.requester;
          tid = s.tid;
          asked = mine.0;
          which = s.table;
          start = s.start;
          asks_from = may;
          one = s.one;
          becomes = refl;
        },
        (
          s.requester,
          s.tid,
          record { asked = mine.0; which = s.table; start = s.start; asks_from = spells; becomes = refl },
        ),
      ))
    where
      table : List (List ℕ)
      table = table_of s.table m.tables

      whole : (s.tables ≡ m.tables) × (cable.router ≡ Some (node_of e))
      whole = t.tables (node_of e) n stands s.tables s.are_tables

      mine : (b : Asked m.asked s.requester s.tid (zones_at cable.net (node_of e)))
          × ((s.newest).transaction ≡ wired b.transaction)
      mine = asked_unwired m.asked s.requester s.tid (zones_at cable.net (node_of e)) s.newest

      spells : RequestSpells (on_wire ((mine.0).transaction).asks).user s.table s.start
      spells = subst (λ (y : atp.Transaction). RequestSpells y.user s.table s.start) mine.1 s.asks_from

      may : MayAskFor ((mine.0).transaction).asks s.table s.start
      may =
          let u = (mine.0).transaction in
          may_ask laws.reading u.asks u.responder
          (newest_asks_well m.asked s.requester s.tid u t.ask_well (mine.0).newest) s.table s.start spells

      page : (server : ℕ) (u : Transaction) → transaction_of m.asked s.requester s.tid ≡ Some u → u.responder
          ≡ zones_at cable.net server → (which : TableChoice) × (start : ℕ) × MayAskFor u.asks which start
          × (page_answer table s.start ≡ page_answer (table_of which m.tables) start)
      page server u is here =
          let one = same_Some (mine.0).transaction u (sym (mine.0).newest ∙ is) in
          (s.table, s.start, subst (λ (y : Transaction). MayAskFor y.asks s.table s.start) one may, refl)

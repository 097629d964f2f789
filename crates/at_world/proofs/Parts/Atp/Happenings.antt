-- How the machine follows each event of a node, by the laws of its steps.
use Rattle.std.proofs.Common.{◌≡◌, inl, inr, ℕ, Bool, true, false, Some, refl, sym, ap, subst, ◌∙◌}
use Rattle.std.specs.List.{AllByRecursion, list_any}
use Rattle.at_atp.specs.Network.{NoneHolds, after, done}
use Rattle.at_atp.specs.Transactions as atp
use Rattle.at_zip.specs.Tables.{AreTables}
use Rattle.at_transaction_socket.specs.TransactionSockets.{asking, serving}
use Rattle.at_zone_socket.specs.ZoneSockets.{zones_at}
use Rattle.at_event.specs.Kinds.{IsCall}
use Rattle.at_node.specs.Numbers.{IsTold, drawn_by, holds}
use Rattle.at_node.specs.Hearing.{Hears}
use Rattle.at_event.specs.Kinds.{Speaker, Atp, speaker_of_call, speaker_of_timer, reporter_of}
use Rattle.at_node.specs.Nodes.{NodeState, called, timed}
use Rattle.at_event.specs.Outcomes.{Outcome}
use Rattle.at_event.specs.Services.{is_asked}
use Rattle.at_node.specs.declared.numbers.Draw.TheVariants.{Tid}
use Rattle.at_event.specs.declared.Call.{Call}
use Rattle.at_event.specs.declared.Report.{Report}
use Rattle.at_event.specs.declared.Timer.{Timer}
use Rattle.at_event.specs.declared.service.Reply.{Reply}
use Rattle.at_event.specs.declared.service.Reply.TheVariants.{Later}
use Rattle.at_steps.specs.AtpHappenings.{IsForeign, IsHappening, IsOn, Passes, ReadsAtLeastOnce, Stands, is_atp}
use Rattle.at_steps.specs.AtpSteps.{IsStep}
use Rattle.at_world.specs.Machine.AtpGuards.{AtpMachine, StepBy, next}
use Rattle.at_world.specs.Cables.{Cable, IsSaid}
use Rattle.at_world.specs.Events.{act_of, node_of}
use Rattle.at_world.specs.Sents.{SentDatagram}
use Rattle.at_world.specs.Transactions.{Transaction}
use Rattle.at_world.specs.Worlds.{WorldState, AreFree, node_at}
use Rattle.at_setup.specs.declared.event.Event.{Event}
use Rattle.at_setup.specs.declared.event.Event.TheVariants as event
use Rattle.at_world.proofs.CableTie.{CableTie, SeatTie, seat_kept}
use Rattle.at_world.proofs.Parts.Atp.Coming.{Comes}
use Rattle.at_world.proofs.Parts.Atp.OnWire.{unwired}
use Rattle.at_world.proofs.Parts.Atp.Places.{requester_here, service_here, served_here}
use Rattle.at_world.proofs.Parts.Atp.Steps.{step_becomes, pass_becomes}
use Rattle.at_world.proofs.Parts.Atp.Tie.{Laws, AtpTie, Good, IsReading, good_next}
use Rattle.at_world.proofs.Parts.Atp.Times.{none_holds}
use Rattle.std.proofs.lemmas.Option.{same_Some}

-- at a report of another protocol a moment passes
moment_passes : (A : Type 0) (c : Cable) (m : AtpMachine) (e : Event A) (r : Report A) (k : Speaker) → is_atp k ≡ false
    → StepBy c m e r (next m) k
moment_passes A c m e r Atp h = absurd (cc)
moment_passes A c m e r other h = refl

-- the report is one that there is, and the machine follows
abbrev pub Follows : (A : Type 0) (w : WorldState) (c : Cable) (m : AtpMachine) (ct : CableTie w c)
    → AtpTie A w c ct.wires m → Event A → Outcome A NodeState → Type 0
Follows A w c m ct t e o = IsSaid e o.report × Good A w c m ct.wires t e o

module _ (A : Type 0) (laws : Laws A) (w : WorldState) (c : Cable) (m : AtpMachine) (ct : CableTie w c)
    (t : AtpTie A w c ct.wires m) (e : Event A) (n : NodeState) (stands : node_at w (node_of e) ≡ Some n) where
  its : SeatTie c (node_of e) n
  its = ct.seats (node_of e) n stands

  -- what holds of the node's place on the cable holds of its seat, and the other way
  at_seat : (P : ℕ → ℕ → Type 0) → P c.net (node_of e) → P n.seat.net n.seat.number
  at_seat P p = subst (λ i. P i n.seat.number) (sym its.net) (subst (P c.net) (sym its.number) p)

  at_place : (P : ℕ → ℕ → Type 0) → P n.seat.net n.seat.number → P c.net (node_of e)
  at_place P p = subst (λ i. P i (node_of e)) its.net (subst (P n.seat.net) its.number p)

  once_at_least : (k : ℕ) (y : NodeState) → node_at w k ≡ Some y
      → ReadsAtLeastOnce (after A t.history).asked (asking c.net k) y.atp
  once_at_least k y is read reads one newest =
      let r = subst (IsReading c m k) reads (t.readings k y is) in
      let it = unwired m.asked (asking c.net k) read.tid one
      (sym (ap (λ ts. atp.transaction_of ts (asking c.net k) read.tid) t.asked) ∙ newest) in
      let same = same_Some it.0 (r.first).transaction (sym it.1 ∙ (r.first).newest) in
      ap (λ (x : atp.Transaction). x.xo) it.2 ∙ ap (λ (x : Transaction). x.xo) same ∙ r.xo

  stands_there : Stands A t.history n.seat.net n.seat.number n
  stands_there = at_seat (λ net k. Stands A t.history net k n) (record {
    timely = t.timely;
    in_range = t.in_range;
    small_net = ct.net;
    small_number = its.small;
    small_router = λ router is. ct.router router (sym its.router ∙ is);
    on_net = subst (AllByRecursion (IsOn c.net)) (sym t.asked) t.on_net;
    requester = t.requesters (asking c.net (node_of e)) ∙ requester_here c.net w.nodes (node_of e) n stands;
    zones = t.responders (zones_at c.net (node_of e)) ∙ served_here c.net w.nodes (node_of e) n stands;
    service = t.responders (serving c.net (node_of e)) ∙ service_here c.net w.nodes (node_of e) n stands;
    is_open = t.opened (node_of e) n stands;
    at_least_once = once_at_least (node_of e) n stands;
    has_tables = λ tables is. subst AreTables (sym (t.tables (node_of e) n stands tables is).0) t.are_tables;
  })

  module _ (o : Outcome A NodeState) (seat : o.state.seat ≡ n.seat) where
    mine : SeatTie c (node_of e) o.state
    mine = seat_kept c (node_of e) n o.state seat its

    pub happened : IsHappening A t.history n.seat.net n.seat.number n (act_of e) o → Follows A w c m ct t e o
    happened h = go (at_place (λ net k. IsHappening A t.history net k n (act_of e) o) h)
      where
        go : IsHappening A t.history c.net (node_of e) n (act_of e) o → Follows A w c m ct t e o
        go (x, step, sends) =
            let b = step_becomes A laws w c m ct.wires e n o.state o.report t stands x.same_tables its.router
            (done A (after A t.history) x.happening).asked
            (subst (λ ts. IsStep c.net (node_of e) n.seat.router
            (record {
              asked = ts;
              now_asked = (done A (after A t.history) x.happening).asked;
              part = n.atp;
              now = o.state.atp;
              act = act_of e;
              report = o.report;
            })) t.asked step) in
            let now = b.1 in
            (b.0, good_next A laws w c ct.wires m e n o t stands x mine now.asked now.on_wire now.becomes)

    -- a step of another protocol
    pub passed : IsForeign n (act_of e) o → Follows A w c m ct t e o
    passed foreign = (
      foreign.said,
      go
          (at_place (λ net k. Passes A t.history net k n (act_of e) o)
          (laws.passes t.history n (act_of e) o stands_there foreign)),
    )
      where
        go : Passes A t.history c.net (node_of e) n (act_of e) o → Good A w c m ct.wires t e o
        go (x, same) =
            let now = pass_becomes A laws w c m ct.wires e n o.state o.report t stands x.same_tables
            (done A (after A t.history) x.happening).asked (same ∙ t.asked) foreign.same foreign.reports
            (moment_passes A c m e o.report (reporter_of o.report) foreign.reports) in
            good_next A laws w c ct.wires m e n o t stands x mine now.asked now.on_wire now.becomes

  -- a number that is drawn is free in the network
  draws_free : (tid : ℕ) → list_any (λ x. holds x (node_of e) (Tid tid)) w.nodes ≡ false
      → NoneHolds (after A t.history).responders (asking n.seat.net n.seat.number) tid
  draws_free tid free = at_seat (λ net k. NoneHolds (after A t.history).responders (asking net k) tid)
      (none_holds laws.unheld c.net (node_of e) tid w.nodes (after A t.history).responders t.responders free)

-- ---- each event

module _ (A : Type 0) (laws : Laws A) (w : WorldState) (c : Cable) (m : AtpMachine) (ct : CableTie w c)
    (t : AtpTie A w c ct.wires m) (k : ℕ) (n : NodeState) (stands : node_at w k ≡ Some n) where
  pub call_follows : (call : Call A) → IsCall call
      → AreFree w.nodes k (λ y draw. drawn_by (called y call).report ≡ Some draw)
      → (called n call).state.seat ≡ n.seat → Follows A w c m ct t (event.Call k call) (called n call)
  call_follows call range free seat = go (is_atp (speaker_of_call call)) refl
    where
      go : (b : Bool) → is_atp (speaker_of_call call) ≡ b → Follows A w c m ct t (event.Call k call) (called n call)
      go true own = happened A laws w c m ct t (event.Call k call) n stands (called n call) seat
          (laws.called t.history n call (stands_there A laws w c m ct t (event.Call k call) n stands) range own
          (λ tid is. draws_free A laws w c m ct t (event.Call k call) n stands tid (free n stands (Tid tid) is)))
      go false other = passed A laws w c m ct t (event.Call k call) n stands (called n call) seat
          (laws.foreign_call n call other)

  pub timer_follows : (time : Timer) → (timed {A = A} n time).state.seat ≡ n.seat
      → Follows A w c m ct t (event.Timer k time) (timed n time)
  timer_follows time seat = go (is_atp (speaker_of_timer time)) refl
    where
      go : (b : Bool) → is_atp (speaker_of_timer time) ≡ b → Follows A w c m ct t (event.Timer k time) (timed n time)
      go true own = happened A laws w c m ct t (event.Timer k time) n stands (timed n time) seat
          (laws.timed t.history n time (stands_there A laws w c m ct t (event.Timer k time) n stands) own)
      go false other = passed A laws w c m ct t (event.Timer k time) n stands (timed n time) seat
          (laws.foreign_timer n time other)

  pub datagram_follows : (which : ℕ) (d : SentDatagram) → Comes A w c m ct t which d
      → AreFree w.nodes k (λ y draw. IsTold A y d.bytes draw) → (said : Reply A) (o : Outcome A NodeState)
      → (is_asked o.report ≡ true → said ≡ Later) → Hears said n d.bytes o → o.state.seat ≡ n.seat
      → Follows A w c m ct t (event.Deliver which k) o
  datagram_follows which d (inr x) free said o later hears seat =
      passed A laws w c m ct t (event.Deliver which k) n stands o seat
      (laws.foreign_datagram n which (x.0).to (x.0).from (x.0).kind (x.0).data_ said o x.2
      (subst (λ (y : SentDatagram). Hears said n y.bytes o) x.1 hears))
  datagram_follows which d (inl comes) free said o later hears seat =
      happened A laws w c m ct t (event.Deliver which k) n stands o seat
      (laws.heard t.history n which comes.packet said o
      (stands_there A laws w c m ct t (event.Deliver which k) n stands) comes.was_sent comes.fresh
      (λ tid is. draws_free A laws w c m ct t (event.Deliver which k) n stands tid
      (free n stands (Tid tid) (record { said = said; outcome = o; hears = hears; tells = is }))) later
      (subst (λ (x : SentDatagram). Hears said n x.bytes o) comes.spells hears))

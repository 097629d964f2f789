-- How the machine follows each event of a node in its names and lookups, by the laws of the node's steps.
use Rattle.std.proofs.Common.{◌≡◌, inl, inr, ℕ, Bool, true, false, Some, refl, sym, subst, ◌∙◌}
use Rattle.at_world.proofs.Parts.Names.LookupSteps.{same_names, step_becomes}
use Rattle.at_name_socket.specs.Sockets.{Stays, open_at}
use Rattle.at_event.specs.Kinds.{IsCall}
use Rattle.at_node.specs.Numbers.{drawn_by}
use Rattle.at_node.specs.Hearing.{Hears}
use Rattle.at_event.specs.Kinds.{Speaker, Nbp, speaker_of_call, speaker_of_timer, reporter_of}
use Rattle.at_node.specs.Nodes.{NodeState, called, timed}
use Rattle.at_event.specs.Outcomes.{Outcome}
use Rattle.at_event.specs.declared.Call.{Call}
use Rattle.at_event.specs.declared.Report.{Report}
use Rattle.at_event.specs.declared.Report.TheVariants as report
use Rattle.at_event.specs.declared.streams.StreamReport.TheVariants as adsp_report
use Rattle.at_event.specs.declared.transactions.TransactionReport.TheVariants as atp_report
use Rattle.at_event.specs.declared.names.NameReport.TheVariants as nbp_report
use Rattle.at_event.specs.declared.Timer.{Timer}
use Rattle.at_event.specs.declared.service.Reply.{Reply}
use Rattle.at_steps.specs.NameHappenings.{Happens, IsForeign, IsHappening, Stands, is_nbp}
use Rattle.at_world.specs.Cables.{Cable}
use Rattle.at_world.specs.Events.{act_of, node_of}
use Rattle.at_world.specs.Machine.NameGuards.{NameMachine, StepBy, next}
use Rattle.at_world.specs.Sents.{SentDatagram}
use Rattle.at_world.specs.Machine.SessionGuards.{Sessions}
use Rattle.at_world.specs.Worlds.{WorldState, node_at}
use Rattle.at_setup.specs.declared.event.Event.{Event}
use Rattle.at_setup.specs.declared.event.Event.TheVariants as event
use Rattle.at_world.proofs.CableTie.{CableTie, SeatTie}
use Rattle.at_world.proofs.Parts.Names.Coming.{Comes}
use Rattle.at_world.proofs.Parts.Names.Lookups.{IsDrawn}
use Rattle.at_world.proofs.Parts.Names.Next.{Good, good_next}
use Rattle.at_world.proofs.Parts.Names.Tie.{NameLaws, NameTie}
use Rattle.at_world.proofs.Parts.Sessions.Tie.{HasSession, SessionTie}

-- at a report of another protocol a moment passes
moment_passes : (A : Type 0) (ss : Sessions) (m : NameMachine) (e : Event A) (r : Report A) (k : Speaker) → is_nbp k
    ≡ false → StepBy ss m e r (next m) k
moment_passes A ss m e r Nbp h = absurd (cc)
moment_passes A ss m e r other h = refl

-- such a report draws no identifier
draws_none : (A : Type 0) (r : Report A) → is_nbp (reporter_of r) ≡ false → IsDrawn Stays (drawn_by r)
draws_none A (report.Names (nbp_report.Looking id)) h = absurd (cc)
draws_none A (report.Transactions (atp_report.Begun tid)) h = tt
draws_none A (report.Streams (adsp_report.Opening id)) h = tt
draws_none A (report.Streams (adsp_report.Made id)) h = tt
draws_none A r h = tt

module _ (A : Type 0) (laws : NameLaws A) (w : WorldState) (c : Cable) (ss : Sessions) (m : NameMachine)
    (ct : CableTie w c) (st : SessionTie w c ss) (t : NameTie w c ct.wires m) (e : Event A) (n : NodeState)
    (stands : node_at w (node_of e) ≡ Some n) where
  its : SeatTie c (node_of e) n
  its = ct.seats (node_of e) n stands

  told_there : HasSession c.net (ss (node_of e)) n
  told_there = st.sessions (node_of e) n stands

  -- what holds of the node's place on the cable holds of its seat, and the other way
  at_seat : (P : ℕ → ℕ → Type 0) → P c.net (node_of e) → P n.seat.net n.seat.number
  at_seat P p = subst (λ i. P i n.seat.number) (sym its.net) (subst (P c.net) (sym its.number) p)

  at_place : (P : ℕ → ℕ → Type 0) → P n.seat.net n.seat.number → P c.net (node_of e)
  at_place P p = subst (λ i. P i (node_of e)) its.net (subst (P n.seat.net) its.number p)

  pub stands_there : Stands t.setting t.history n.seat.net n.seat.number n
  stands_there =
      let socket = t.sockets (node_of e) n stands in
      at_seat (λ net k. Stands t.setting t.history net k n) (record {
        all_ask = t.all_ask;
        lawful = t.lawful;
        timely = t.timely;
        in_range = t.in_range;
        asked = t.asked;
        small_net = ct.net;
        small_number = socket.small;
        stands = socket.stands;
        socket = socket.socket;
        own = socket.own;
        picked = let told = told_there in (told.fits).picked;
      })

  module _ (o : Outcome A NodeState) (seat : o.state.seat ≡ n.seat) where
    number : o.state.seat.number ≡ node_of e
    number = (λ i. (seat i).number) ∙ its.number

    pub happened : IsHappening t.setting t.history n.seat.net n.seat.number n (act_of e) o
        → Good A w c ss m ct.wires e o
    happened h = go (at_place (λ net k. IsHappening t.setting t.history net k n (act_of e) o) h)
      where
        go : IsHappening t.setting t.history c.net (node_of e) n (act_of e) o → Good A w c ss m ct.wires e o
        go (x, step) = good_next A w c ss ct.wires m e n o t stands x number
            (step_becomes A laws w c ss m ct.wires e n o.state o.report t stands
            (let told = told_there in told.same) step)

    -- a step of another protocol
    pub passed : IsForeign n (act_of e) o → Good A w c ss m ct.wires e o
    passed foreign =
        let h : Happens t.setting t.history c.net (node_of e) n (act_of e) o = at_place
        (λ net k. Happens t.setting t.history net k n (act_of e) o)
        (laws.passes t.setting t.history n (act_of e) o stands_there foreign) in
        good_next A w c ss ct.wires m e n o t stands h number (record {
          names = m.names;
          change = Stays;
          allows = moment_passes A ss m e o.report (reporter_of o.report) foreign.reports;
          tables = same_names A laws w c ss m ct.wires e n o.state o.report t stands
              (let told = told_there in told.same) (λ i. (foreign.same i).table);
          opened = λ id i. open_at (foreign.same i) id;
          drawn = draws_none A o.report foreign.reports;
        })

-- ---- each event

module _ (A : Type 0) (laws : NameLaws A) (w : WorldState) (c : Cable) (ss : Sessions) (m : NameMachine)
    (ct : CableTie w c) (st : SessionTie w c ss) (t : NameTie w c ct.wires m) (k : ℕ) (n : NodeState)
    (stands : node_at w k ≡ Some n) where
  pub call_follows : (call : Call A) → IsCall call → (called n call).state.seat ≡ n.seat
      → Good A w c ss m ct.wires (event.Call k call) (called n call)
  call_follows call range seat = go (is_nbp (speaker_of_call call)) refl
    where
      go : (b : Bool) → is_nbp (speaker_of_call call) ≡ b → Good A w c ss m ct.wires (event.Call k call) (called n call)
      go true own = happened A laws w c ss m ct st t (event.Call k call) n stands (called n call) seat
          (laws.called t.setting t.history n call (stands_there A laws w c ss m ct st t (event.Call k call) n stands)
          range own)
      go false other = passed A laws w c ss m ct st t (event.Call k call) n stands (called n call) seat
          (laws.foreign_call n call other)

  pub timer_follows : (time : Timer) → (timed {A = A} n time).state.seat ≡ n.seat
      → Good A w c ss m ct.wires (event.Timer k time) (timed n time)
  timer_follows time seat = go (is_nbp (speaker_of_timer time)) refl
    where
      go : (b : Bool) → is_nbp (speaker_of_timer time) ≡ b → Good A w c ss m ct.wires (event.Timer k time)
          (timed n time)
      go true own = happened A laws w c ss m ct st t (event.Timer k time) n stands (timed n time) seat
          (laws.timed t.setting t.history n time (stands_there A laws w c ss m ct st t (event.Timer k time) n stands)
          own)
      go false other = passed A laws w c ss m ct st t (event.Timer k time) n stands (timed n time) seat
          (laws.foreign_timer n time other)

  pub datagram_follows : (which : ℕ) (d : SentDatagram) → Comes w c m ct.wires t which d
      → (said : Reply A) (o : Outcome A NodeState) → Hears said n d.bytes o → o.state.seat ≡ n.seat
      → Good A w c ss m ct.wires (event.Deliver which k) o
  datagram_follows which d (inr x) said o hears seat =
      passed A laws w c ss m ct st t (event.Deliver which k) n stands o seat
      (laws.foreign_datagram n which (x.0).to (x.0).from (x.0).kind (x.0).data_ said o x.2
      (subst (λ (y : SentDatagram). Hears said n y.bytes o) x.1 hears))
  datagram_follows which d (inl comes) said o hears seat =
      happened A laws w c ss m ct st t (event.Deliver which k) n stands o seat
      (laws.heard t.setting t.history n which comes.packet said o
      (stands_there A laws w c ss m ct st t (event.Deliver which k) n stands) comes.was_sent comes.fresh
      (subst (λ (x : SentDatagram). Hears said n x.bytes o) comes.spells hears))

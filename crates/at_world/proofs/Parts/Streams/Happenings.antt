-- How the machine follows each event of a node in its streams, by the laws of the node's steps.
use Rattle.std.proofs.Common.{◌≡◌, inl, inr, ℕ, Bool, true, false, ◌∷◌, Some, refl, sym, ap, subst, ◌∙◌}
use Rattle.std.specs.List.{list_any}
use Rattle.at_adsp.specs.Connections.{streams}
use Rattle.at_adsp.specs.Network.{Reads, after, done}
use Rattle.at_event.specs.Kinds.{IsCall}
use Rattle.at_event.specs.Kinds.{Speaker, Adsp, speaker_of_call, speaker_of_timer, reporter_of}
use Rattle.at_event.specs.Outcomes.{Outcome}
use Rattle.at_event.specs.declared.Call.{Call}
use Rattle.at_event.specs.declared.Call.TheVariants.{Streams}
use Rattle.at_event.specs.declared.streams.StreamCall.TheVariants.{Read}
use Rattle.at_event.specs.declared.Report.{Report}
use Rattle.at_event.specs.declared.Report.TheVariants as report
use Rattle.at_event.specs.declared.streams.StreamReport.TheVariants as adsp_report
use Rattle.at_event.specs.declared.Timer.{Timer}
use Rattle.at_event.specs.declared.service.Reply.{Reply}
use Rattle.at_adsp.specs.Meetings.{ReadsWith}
use Rattle.at_adsp.specs.Orders.{ReadsInOrder}
use Rattle.at_stream_socket.specs.Sockets.{streams_at}
use Rattle.at_node.specs.Numbers.{IsTold, drawn_by, holds}
use Rattle.at_node.specs.Hearing.{Hears}
use Rattle.at_node.specs.Nodes.{NodeState, called, timed}
use Rattle.at_node.specs.declared.numbers.Draw.TheVariants.{Conn}
use Rattle.at_steps.specs.StreamHappenings.{IsForeign, IsHappening, Passes, Stands, is_adsp}
use Rattle.at_world.specs.Cables.{Cable}
use Rattle.at_world.specs.Events.{act_of, node_of}
use Rattle.at_world.specs.Sents.{SentDatagram}
use Rattle.at_world.specs.Machine.StreamGuards.{StepBy, StreamMachine, next}
use Rattle.at_world.specs.Machine.SessionGuards.{Sessions}
use Rattle.at_world.specs.Worlds.{WorldState, AreFree, is_over, node_at}
use Rattle.at_setup.specs.declared.event.Event.{Event}
use Rattle.at_setup.specs.declared.event.Event.TheVariants as event
use Rattle.at_world.proofs.CableTie.{CableTie, SeatTie}
use Rattle.at_world.proofs.Parts.Streams.Coming.{Comes}
use Rattle.at_world.proofs.Parts.Streams.Freely.{none_names}
use Rattle.at_world.proofs.Parts.Streams.Next.{Good, good_next, moved}
use Rattle.at_world.proofs.Parts.Streams.Standing as standing
use Rattle.at_world.proofs.Parts.Streams.Steps.{ReadsAt, step_allows}
use Rattle.at_world.proofs.Parts.Streams.Tie.{StreamLaws, StreamTie}
use Rattle.at_world.proofs.Parts.Streams.Tie as tie
use Rattle.at_world.proofs.Parts.Sessions.Tie.{HasSession, SessionTie}

-- at a report of another protocol nothing changes
nothing_changes : (A : Type 0) (c : Cable) (ss : Sessions) (m : StreamMachine) (e : Event A) (r : Report A)
    (k : Speaker)
    → is_adsp k ≡ false → StepBy c ss m e r (next m) k
nothing_changes A c ss m e r Adsp h = absurd (cc)
nothing_changes A c ss m e r other h = refl

same_call : {A : Type 0} (node : ℕ) (a b : Call A) → event.Call node a ≡ event.Call node b → a ≡ b
same_call node a b h = cc

module _ (A : Type 0) (laws : StreamLaws A) (w : WorldState) (c : Cable) (ss : Sessions) (m : StreamMachine)
    (ct : CableTie w c) (st : SessionTie w c ss) (t : StreamTie w c ct.wires m) (runs : is_over w ≡ false)
    (e : Event A) (n : NodeState) (stands : node_at w (node_of e) ≡ Some n) where
  its : SeatTie c (node_of e) n
  its = ct.seats (node_of e) n stands

  told_there : HasSession c.net (ss (node_of e)) n
  told_there = st.sessions (node_of e) n stands

  at_seat : (P : ℕ → ℕ → Type 0) → P c.net (node_of e) → P n.seat.net n.seat.number
  at_seat = standing.at_seat w c ss m ct st t (node_of e) n stands

  at_place : (P : ℕ → ℕ → Type 0) → P n.seat.net n.seat.number → P c.net (node_of e)
  at_place = standing.at_place w c ss m ct st t (node_of e) n stands

  pub stands_there : Stands t.setting t.history n.seat.net n.seat.number n
  stands_there = standing.stands_there w c ss m ct st t (node_of e) n stands

  -- a number that is free in the world is no end's remote
  pub draws_free : (r : Report A)
      → ((id : ℕ) → drawn_by r ≡ Some (Conn id) → list_any (λ x. holds x (node_of e) (Conn id)) w.nodes ≡ false)
      → tie.DrawsFree t.setting t.history n.seat.net n.seat.number r
  draws_free r free = at_seat (λ net k. tie.DrawsFree t.setting t.history net k r)
      (λ id draws. none_names A laws w c m ct.wires t (node_of e) id (free id draws))

  module _ (o : Outcome A NodeState) (seat : o.state.seat ≡ n.seat) where
    number : o.state.seat.number ≡ node_of e
    number = (λ i. (seat i).number) ∙ its.number

    pub happened : ReadsAt A w c m ct t e n o → IsHappening t.setting t.history n.seat.net n.seat.number n (act_of e) o
        → Good A w c ss m ct.wires e o
    happened reads h = go (at_place (λ net k. IsHappening t.setting t.history net k n (act_of e) o) h)
      where
        go : IsHappening t.setting t.history c.net (node_of e) n (act_of e) o → Good A w c ss m ct.wires e o
        go (x, step) = good_next A w c ss ct.wires m e n o t stands x number
            (step_allows A laws w c ss m ct e n o t runs (let told = told_there in told.same) x reads step)

    -- a step of another protocol
    pub passed : IsForeign n (act_of e) o → Good A w c ss m ct.wires e o
    passed foreign = go (at_place (λ net k. Passes t.setting t.history net k n (act_of e) o)
        (laws.passes t.setting t.history n (act_of e) o stands_there foreign))
      where
        go : Passes t.setting t.history c.net (node_of e) n (act_of e) o → Good A w c ss m ct.wires e o
        go (x, same) =
            let becomes : moved m (streams (done t.setting (after t.setting t.history) x.happening))
            ≡ next m = ap (moved m) (same ∙ sym t.streams_are) in
            good_next A w c ss ct.wires m e n o t stands x number
            (subst (λ y. StepBy c ss m e o.report y (reporter_of o.report)) (sym becomes)
            (nothing_changes A c ss m e o.report (reporter_of o.report) foreign.reports))

-- ---- each event

module _ (A : Type 0) (laws : StreamLaws A) (w : WorldState) (c : Cable) (ss : Sessions) (m : StreamMachine)
    (ct : CableTie w c) (st : SessionTie w c ss) (t : StreamTie w c ct.wires m) (runs : is_over w ≡ false) (k : ℕ)
    (n : NodeState) (stands : node_at w k ≡ Some n) where
  pub call_follows : (call : Call A) → IsCall call
      → AreFree w.nodes k (λ x draw. drawn_by (called x call).report ≡ Some draw) → (called n call).state.seat ≡ n.seat
      → Good A w c ss m ct.wires (event.Call k call) (called n call)
  call_follows call range free seat = go (is_adsp (speaker_of_call call)) refl
    where
      reads : ReadsAt A w c m ct t (event.Call k call) n (called n call)
      reads id count items is told order =
          let its = ct.seats k n stands in
          let call_is : call ≡ Streams (Read id count) = same_call k call (Streams (Read id count)) is in
          let told' : (called n (Streams (Read id count))).report
          ≡ report.Streams (adsp_report.Read items) =
          subst (λ (x : Call A). (called n x).report ≡ report.Streams (adsp_report.Read items)) call_is told in
          let at : streams_at n.seat.net n.seat.number
          ≡ streams_at c.net k = λ i. streams_at (its.net i) (its.number i) in
          subst (λ a. ReadsInOrder (after t.setting (Reads a id count ∷ t.history))
          → ReadsWith (streams (after t.setting t.history)) a id items) at
          (laws.reads t.setting t.history n id count items
          (stands_there A laws w c ss m ct st t runs (event.Call k call) n stands) told') order

      go : (b : Bool) → is_adsp (speaker_of_call call) ≡ b → Good A w c ss m ct.wires (event.Call k call)
          (called n call)
      go true own = happened A laws w c ss m ct st t runs (event.Call k call) n stands (called n call) seat reads
          (laws.called t.setting t.history n call
          (stands_there A laws w c ss m ct st t runs (event.Call k call) n stands) range own
          (draws_free A laws w c ss m ct st t runs (event.Call k call) n stands (called n call).report
          (λ id draws. free n stands (Conn id) draws)))
      go false other = passed A laws w c ss m ct st t runs (event.Call k call) n stands (called n call) seat
          (laws.foreign_call n call other)

  pub timer_follows : (time : Timer) → (timed {A = A} n time).state.seat ≡ n.seat
      → Good A w c ss m ct.wires (event.Timer k time) (timed n time)
  timer_follows time seat = go (is_adsp (speaker_of_timer time)) refl
    where
      go : (b : Bool) → is_adsp (speaker_of_timer time) ≡ b → Good A w c ss m ct.wires (event.Timer k time)
          (timed n time)
      go true own = happened A laws w c ss m ct st t runs (event.Timer k time) n stands (timed n time) seat
          (λ id count items is. absurd (cc))
          (laws.timed t.setting t.history n time
          (stands_there A laws w c ss m ct st t runs (event.Timer k time) n stands) own)
      go false other = passed A laws w c ss m ct st t runs (event.Timer k time) n stands (timed n time) seat
          (laws.foreign_timer n time other)

  pub datagram_follows : (which : ℕ) (d : SentDatagram) → Comes w c m ct.wires t which d
      → AreFree w.nodes k (λ x draw. IsTold A x d.bytes draw) → (said : Reply A) (o : Outcome A NodeState)
      → Hears said n d.bytes o → o.state.seat ≡ n.seat → Good A w c ss m ct.wires (event.Deliver which k) o
  datagram_follows which d (inr x) free said o hears seat =
      passed A laws w c ss m ct st t runs (event.Deliver which k) n stands o seat
      (laws.foreign_datagram n which (x.0).to (x.0).from (x.0).kind (x.0).data_ said o x.2
      (subst (λ (y : SentDatagram). Hears said n y.bytes o) x.1 hears))
  datagram_follows which d (inl comes) free said o hears seat =
      happened A laws w c ss m ct st t runs (event.Deliver which k) n stands o seat (λ id count items is. absurd (cc))
      (laws.heard t.setting t.history n which comes.packet said o
      (stands_there A laws w c ss m ct st t runs (event.Deliver which k) n stands) comes.was_sent comes.fresh
      (draws_free A laws w c ss m ct st t runs (event.Deliver which k) n stands o.report
      (λ id draws. free n stands (Conn id) (record { said = said; outcome = o; hears = hears; tells = draws })))
      (subst (λ (y : SentDatagram). Hears said n y.bytes o) comes.spells hears))

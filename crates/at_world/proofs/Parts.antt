-- The parts of a world and of the machine, a row each: what ties them, what the layers below promise, and how each part
-- follows an event. All that is said of every part goes by these rows.
use Rattle.std.proofs.Common.{◌≡◌, ℕ, true, false, List, [], map, Some, sym, subst, refl}
use Rattle.std.specs.Prelude.{◌↔◌, slice_get}
use Rattle.at_event.specs.Kinds.{IsCall}
use Rattle.at_event.specs.Outcomes.{Outcome, idle, posted}
use Rattle.at_event.specs.Services.{is_asked}
use Rattle.at_event.specs.declared.Call.{Call}
use Rattle.at_event.specs.declared.Timer.{Timer}
use Rattle.at_event.specs.declared.Report.{Report}
use Rattle.at_event.specs.declared.Report.TheVariants.{NoMemory}
use Rattle.at_event.specs.declared.service.Reply.{Reply}
use Rattle.at_event.specs.declared.service.Reply.TheVariants.{Later}
use Rattle.at_node.specs.Hearing.{Hears}
use Rattle.at_node.specs.Nodes.{KeepsSeat, NodeState, called, timed}
use Rattle.at_node.specs.Numbers.{DrawsHearing, IsTold, draw_of, drawn_by}
use Rattle.at_node.specs.declared.numbers.Draw.{Draw}
use Rattle.at_setup.specs.Setups.{is_lawful}
use Rattle.at_setup.specs.declared.event.Event.{Event}
use Rattle.at_setup.specs.declared.event.Event.TheVariants as event
use Rattle.at_setup.specs.declared.setup.Setup.{Setup}
use Rattle.at_world.specs.Machine.AtpGuards as atp_guards
use Rattle.at_world.specs.Cables as cables
use Rattle.at_world.specs.Events.{act_of, node_of}
use Rattle.at_world.specs.Machine.{Machine, MachineStep, opening_machine}
use Rattle.at_world.specs.Machine.NameGuards as name_guards
use Rattle.at_world.specs.Plays.{opening_world}
use Rattle.at_world.specs.Sents.{SentDatagram}
use Rattle.at_world.specs.Machine.StreamGuards as stream_guards
use Rattle.at_world.specs.Worlds.{WorldState, AreFree, is_over, node_at, recorded}
use Rattle.at_world.proofs.Parts.Atp.Coming.{comes}
use Rattle.at_world.proofs.Parts.Atp.Happenings as asked
use Rattle.at_world.proofs.Parts.Atp.Happenings.{Follows as FollowsAtp}
use Rattle.at_world.proofs.Parts.Atp.Opening.{atp_at_opening}
use Rattle.at_world.proofs.Parts.Atp.Tie.{AtpTie, Grown, Laws}
use Rattle.at_world.proofs.CableOpening.{cable_at_opening}
use Rattle.at_world.proofs.CableTie.{CableTie, cable_next}
use Rattle.at_world.proofs.FreshLemmas.{IsFresh}
use Rattle.at_world.proofs.LawfulSetups.{SetupLaws}
use Rattle.at_world.proofs.Parts.Names.Coming as names_coming
use Rattle.at_world.proofs.Parts.Names.Happenings as named
use Rattle.at_world.proofs.Parts.Names.Next.{Good as GoodNames}
use Rattle.at_world.proofs.Parts.Names.Opening.{names_at_opening}
use Rattle.at_world.proofs.Parts.Names.Tie.{NameLaws, NameTie}
use Rattle.at_world.proofs.Parts.Sessions.Opening.{sessions_at_opening}
use Rattle.at_world.proofs.Parts.Sessions.Steps as told
use Rattle.at_world.proofs.Parts.Sessions.Steps.{Good as GoodSessions, SessionLaws}
use Rattle.at_world.proofs.Parts.Sessions.Tie.{SessionTie}
use Rattle.at_world.proofs.Parts.Streams.Coming as streams_coming
use Rattle.at_world.proofs.Parts.Streams.Happenings as streamed
use Rattle.at_world.proofs.Parts.Streams.Next.{Good as GoodStreams}
use Rattle.at_world.proofs.Parts.Streams.Opening.{streams_at_opening}
use Rattle.at_world.proofs.Parts.Streams.Tie.{StreamLaws, StreamTie}
pub mod Atp
pub mod Names
pub mod Sessions
pub mod Streams

-- what ties a world to the machine: a tie of the cable, one of each part, and one of the sessions
pub record Tied (A : Type 0) (w : WorldState) (m : Machine) : Type 0 where
  pub cable : CableTie w m.cable
  pub atp : AtpTie A w m.cable cable.wires m.atp
  pub names : NameTie w m.cable cable.wires m.names
  pub streams : StreamTie w m.cable cable.wires m.streams
  pub sessions : SessionTie w m.cable m.sessions

-- a node stays at its seat
pub record SeatLaws (A : Type 0) : Type 0 where
  pub called : (n : NodeState) (call : Call A) → KeepsSeat n (called n call)
  pub timed : (n : NodeState) (time : Timer) → KeepsSeat {A = A} n (timed n time)
  pub heard : (said : Reply A) (n : NodeState) (bytes : List ℕ) (o : Outcome A NodeState) → Hears said n bytes o
      → KeepsSeat n o

-- what the layers below promise of each part
pub record PartLaws (A : Type 0) : Type 0 where
  pub atp : Laws A
  pub names : NameLaws A
  pub streams : StreamLaws A
  pub sessions : SessionLaws A
  pub seats : SeatLaws A
  pub drawn : (n : NodeState) (call : Call A) → drawn_by (called n call).report ≡ draw_of n call
  pub heard : (n : NodeState) (bytes : List ℕ) (draw : Draw) → IsTold A n bytes draw ↔ DrawsHearing n bytes draw

-- ---- the opening

pub tied_at_opening : (A : Type 0) (s : Setup A) → SetupLaws → NameLaws A → is_lawful s ≡ true
    → (t : Tied A (opening_world s) (opening_machine s)) × ((t.atp).history ≡ [])
tied_at_opening A s setups laws ok =
    let cable = cable_at_opening A s ok in
    let both = subst
    (λ l. (t : AtpTie A (opening_world s) (cables.opening s) l (atp_guards.opening s)) × (t.history ≡ []))
    (sym cable.1) (atp_at_opening A s setups ok) in
    let named = subst (λ l. NameTie (opening_world s) (cables.opening s) l (name_guards.opening s)) (sym cable.1)
    (names_at_opening A laws s setups ok) in
    let streamed = subst (λ l. StreamTie (opening_world s) (cables.opening s) l stream_guards.opening) (sym cable.1)
    (streams_at_opening A s ok) in (
      record { cable = cable.0; atp = both.0; names = named; streams = streamed; sessions = sessions_at_opening A s },
      both.1,
    )

-- ---- an event

-- the machine may answer an event so, and is tied to the world after it
abbrev pub Follow : (A : Type 0) (w : WorldState) (m : Machine) → Tied A w m → Event A → Report A → WorldState → Type 0
Follow A w m t e r w' = (m' : Machine) × MachineStep m e r m' × (now : Tied A w' m')
    × Grown A m.cable m.atp (t.atp).history (now.atp).history e r m'.atp × (m'.cable ≡ m.cable)

module _ (A : Type 0) (w : WorldState) (m : Machine) (t : Tied A w m) (e : Event A) (n : NodeState)
    (stands : node_at w (node_of e) ≡ Some n) where
  -- each part follows an outcome
  abbrev pub EachFollows : Outcome A NodeState → Type 0
  EachFollows o = FollowsAtp A w m.cable m.atp t.cable t.atp e o
      × GoodNames A w m.cable m.sessions m.names (t.cable).wires e o
      × GoodStreams A w m.cable m.sessions m.streams (t.cable).wires e o
      × GoodSessions A w m.cable m.sessions e n o t.sessions stands

  -- the parts and the cable follow an outcome together
  pub together : (o : Outcome A NodeState) → KeepsSeat n o → EachFollows o
      → Follow A w m t e o.report (recorded w (node_of e) o.report o.state (map posted o.out))
  together o seat ((said, good), names, streams, sessions) =
      let cable = cable_next A w m.cable (node_of e) n o t.cable stands seat in
      let both = subst (λ l. (x : AtpTie A (recorded w (node_of e) o.report o.state (map posted o.out)) m.cable l
      good.0) × Grown A m.cable m.atp (t.atp).history x.history e o.report good.0) (sym cable.1)
      (good.2, good.3) in
      let tied_names = subst (λ l. NameTie (recorded w (node_of e) o.report o.state (map posted o.out)) m.cable l
      names.0) (sym cable.1) names.2 in
      let tied_streams = subst
      (λ l. StreamTie (recorded w (node_of e) o.report o.state (map posted o.out)) m.cable l streams.0)
      (sym cable.1) streams.2 in (
        record { cable = m.cable; atp = good.0; names = names.0; streams = streams.0; sessions = sessions.0 },
        record {
          cable = record { said = said; becomes = refl };
          atp = good.1;
          names = names.1;
          streams = streams.1;
          sessions = sessions.1;
        },
        record { cable = cable.0; atp = both.0; names = tied_names; streams = tied_streams; sessions = sessions.2 },
        both.1,
        refl,
      )

  -- nothing happens for want of memory
  pub nothing_follows : PartLaws A → is_over w ≡ false → EachFollows (idle n NoMemory)
  nothing_follows laws runs =
      let has = t.sessions in
      let its = has.sessions (node_of e) n stands in
      let seats = t.cable in
      let seat = seats.seats (node_of e) n stands in (
        asked.passed A laws.atp w m.cable m.atp t.cable t.atp e n stands (idle n NoMemory) refl
            (record { same = refl; sends = tt; reports = refl; said = tt }),
        named.passed A laws.names w m.cable m.sessions m.names t.cable t.sessions t.names e n stands
            (idle n NoMemory) refl (record { same = refl; sends = tt; reports = refl; said = tt }),
        streamed.passed A laws.streams w m.cable m.sessions m.streams t.cable t.sessions t.streams runs e n stands
            (idle n NoMemory) refl (record { same = refl; sends = tt; reports = refl; said = tt }),
        told.good_next A w m.cable m.sessions e n (idle n NoMemory) t.sessions stands seat.number
            (told.nothing_steps A n.session (act_of e)) its.fits,
      )

module _ (A : Type 0) (laws : PartLaws A) (w : WorldState) (m : Machine) (t : Tied A w m) (runs : is_over w ≡ false)
    (k : ℕ) (n : NodeState) (stands : node_at w k ≡ Some n) where
  pub call_follows : (call : Call A) → IsCall call
      → AreFree w.nodes k (λ x draw. drawn_by (called x call).report ≡ Some draw)
      → EachFollows A w m t (event.Call k call) n stands (called n call)
  call_follows call range free =
      let seat = (laws.seats).called n call in (
        asked.call_follows A laws.atp w m.cable m.atp t.cable t.atp k n stands call range free seat,
        named.call_follows A laws.names w m.cable m.sessions m.names t.cable t.sessions t.names k n stands call range
            seat,
        streamed.call_follows A laws.streams w m.cable m.sessions m.streams t.cable t.sessions t.streams runs k n
            stands call range free seat,
        told.call_follows A laws.sessions laws.names w m.cable m.sessions m.names t.cable t.sessions t.names k n stands
            call range seat,
      )

  pub timer_follows : (time : Timer) → EachFollows A w m t (event.Timer k time) n stands (timed n time)
  timer_follows time =
      let seat = (laws.seats).timed n time in (
        asked.timer_follows A laws.atp w m.cable m.atp t.cable t.atp k n stands time seat,
        named.timer_follows A laws.names w m.cable m.sessions m.names t.cable t.sessions t.names k n stands time seat,
        streamed.timer_follows A laws.streams w m.cable m.sessions m.streams t.cable t.sessions t.streams runs k n
            stands time seat,
        told.timer_follows A laws.sessions laws.names w m.cable m.sessions m.names t.cable t.sessions t.names k n
            stands time seat,
      )

  -- a datagram that was sent, and comes in time
  pub datagram_follows : (which : ℕ) (d : SentDatagram) → slice_get w.sent which ≡ Some d → IsFresh w d
      → AreFree w.nodes k (λ x draw. IsTold A x d.bytes draw) → (said : Reply A) (o : Outcome A NodeState)
      → (is_asked o.report ≡ true → said ≡ Later) → Hears said n d.bytes o
      → EachFollows A w m t (event.Deliver which k) n stands o
  datagram_follows which d sent fresh free said o later hears =
      let seat = (laws.seats).heard said n d.bytes o hears in (
        asked.datagram_follows A laws.atp w m.cable m.atp t.cable t.atp k n stands which d
            (comes A laws.atp w m.cable m.atp t.cable t.atp which d sent fresh) free said o later hears seat,
        named.datagram_follows A laws.names w m.cable m.sessions m.names t.cable t.sessions t.names k n stands which d
            (names_coming.comes A laws.names w m.cable m.names t.cable t.names which d sent fresh) said o hears seat,
        streamed.datagram_follows A laws.streams w m.cable m.sessions m.streams t.cable t.sessions t.streams runs k n
            stands which d
            (streams_coming.comes A laws.streams w m.cable m.streams t.cable t.streams which d sent fresh) free said o
            hears seat,
        told.datagram_follows A laws.sessions laws.names w m.cable m.sessions m.names t.cable t.sessions t.names k n
            stands which d.bytes said o hears seat,
      )

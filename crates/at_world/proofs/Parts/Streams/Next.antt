-- The tie of streams after a step of one node.
use Rattle.std.proofs.Common.{◌≡◌, ℕ, ◌+◌, Bool, true, false, cond, List, [], ◌∷◌, ◌++◌, map, Some, refl, sym, ap}
use Rattle.std.proofs.Common.{subst, ◌∙◌}
use Rattle.std.specs.Prelude.{find, is_some, ◌==◌, ◌&&◌}
use Rattle.std.proofs.lemmas.Bool.{true≢false, eqb-true, eq-eqb}
use Rattle.at_ddp.specs.Address.{same_address}
use Rattle.at_ddp.specs.Tables.{replaced}
use Rattle.at_ddp.specs.declared.address.Address.{Address}
use Rattle.at_ddp.proofs.Octets.{same_address-true}
use Rattle.at_adsp_ends.specs.Tables.{EndTable}
use Rattle.at_adsp.specs.Connections.{streams}
use Rattle.at_ddp.proofs.PostLemmas.{put_here}
use Rattle.at_world.proofs.Entries.{Entries, entries_both, entries_of}
use Rattle.at_adsp.specs.Network.{after, done}
use Rattle.at_adsp.specs.Streams.{Stream}
use Rattle.at_event.specs.Kinds.{reporter_of}
use Rattle.at_event.specs.Outcomes.{Outcome, posted}
use Rattle.at_node.specs.Numbers.{drawn_by}
use Rattle.at_node.specs.Nodes.{NodeState}
use Rattle.at_steps.specs.StreamHappenings.{Happens, identifiers, stream_coding}
use Rattle.at_stream_socket.specs.Sockets.{streams_at}
use Rattle.at_world.specs.Cables.{Cable}
use Rattle.at_world.specs.Events.{act_of, node_of}
use Rattle.at_world.specs.Machine.StreamGuards.{StepBy, StreamMachine, next}
use Rattle.at_world.specs.Machine.SessionGuards.{Sessions}
use Rattle.at_nodes.specs.Nodes.{is_numbered}
use Rattle.at_world.specs.Worlds.{WorldState, node_at, recorded}
use Rattle.at_setup.specs.declared.event.Event.{Event}
use Rattle.at_world.proofs.CableTie.{Wire, found_after, wire}
use Rattle.at_world.proofs.Nodes.{at_after}
use Rattle.at_world.proofs.Parts.Streams.Tie.{HasEnds, StreamTie, is_nodes_socket}
use Rattle.at_world.proofs.Parts.Streams.Times.{IsNoted, all_noted_then}
use Rattle.std.specs.List.{AllByRecursion}

-- the machine one event later, with these streams
abbrev pub moved : StreamMachine → List Stream → StreamMachine
moved m ss = next (record m { streams = ss })

-- the machine follows this outcome of a node's step
abbrev pub Good : (A : Type 0) (w : WorldState) (c : Cable) (ss : Sessions) (m : StreamMachine) (wires : List Wire)
    → Event A → Outcome A NodeState → Type 0
Good A w c ss m wires e o = (m' : StreamMachine) × StepBy c ss m e o.report m' (reporter_of o.report)
    × StreamTie (recorded w (node_of e) o.report o.state (map posted o.out)) c (wires ++ map (wire w.events) o.out) m'

-- the sockets of two nodes are apart as the nodes are
pub same_sockets : (net k j : ℕ) → same_address (streams_at net k) (streams_at net j) ≡ (k == j)
same_sockets net k j = ap (λ b. b && (k == j) && true) (eq-eqb net net refl) ∙ go (k == j)
  where
    go : (b : Bool) → (b && true) ≡ b
    go true = refl
    go false = refl

-- the same nodes stand after a step
pub nodes_stay : (k j : ℕ) (x n : NodeState) (nodes : List NodeState) → x.seat.number ≡ k → find (is_numbered k) nodes
    ≡ Some n → is_some (find (is_numbered j) (replaced (is_numbered k) x nodes)) ≡ is_some (find (is_numbered j) nodes)
nodes_stay k j x n nodes same stands = ap is_some (at_after k j x n nodes same stands) ∙ go (k == j) refl
  where
    go : (b : Bool) → (k == j) ≡ b → is_some (cond b (Some x) (find (is_numbered j) nodes))
        ≡ is_some (find (is_numbered j) nodes)
    go true e = sym (ap (λ i. is_some (find (is_numbered i) nodes)) (sym (eqb-true k j e)) ∙ ap is_some stands)
    go false e = refl

module _ (A : Type 0) (w : WorldState) (c : Cable) (ss : Sessions) (wires : List Wire) (m : StreamMachine)
    (e : Event A) (n : NodeState) (o : Outcome A NodeState) (t : StreamTie w c wires m)
    (stands : node_at w (node_of e) ≡ Some n)
    (h : Happens t.setting t.history c.net (node_of e) n (act_of e) o) (number : o.state.seat.number ≡ node_of e)
    (allows : StepBy c ss m e o.report (moved m (streams (done t.setting (after t.setting t.history) h.happening)))
    (reporter_of o.report)) where
  its : HasEnds c.net t.setting t.history (node_of e) n
  its = t.ends (node_of e) n stands

  mine : HasEnds c.net t.setting (h.happening ∷ t.history) (node_of e) o.state
  mine = record {
    some = its.some;
    small = its.small;
    stands = h.tables (streams_at c.net (node_of e))
        ∙ put_here (after t.setting t.history).tables (streams_at c.net (node_of e)) o.state.streams;
  }

  another : (j : ℕ) (y : NodeState) → (node_of e == j) ≡ false → HasEnds c.net t.setting t.history j y
      → HasEnds c.net t.setting (h.happening ∷ t.history) j y
  another j y apart has = record {
    some = has.some;
    small = has.small;
    stands = h.tables (streams_at c.net j)
        ∙ ap (λ d. cond d o.state.streams ((after t.setting t.history).tables (streams_at c.net j)))
        (same_sockets c.net (node_of e) j ∙ apart) ∙ has.stands;
  }

  abbrev later : WorldState
  later = recorded w (node_of e) o.report o.state (map posted o.out)

  node_there : (j : ℕ) → is_some (node_at later j) ≡ is_some (node_at w j)
  node_there j = nodes_stay (node_of e) j o.state n w.nodes number stands

  nowhere : (at : Address) → is_nodes_socket later c.net at ≡ false
      → ((done t.setting (after t.setting t.history) h.happening).tables at).ends ≡ []
  nowhere at none = ap (λ (x : EndTable). x.ends) (h.tables at)
      ∙ go (same_address (streams_at c.net (node_of e)) at) refl
    where
      before : is_nodes_socket w c.net at ≡ false
      before = ap (λ b. same_address (streams_at c.net at.node) at && b) (sym (node_there at.node)) ∙ none

      its_own : same_address (streams_at c.net (node_of e)) at ≡ true → is_nodes_socket w c.net at ≡ true
      its_own is =
          let same : streams_at c.net (node_of e) ≡ at = same_address-true (streams_at c.net (node_of e)) at is in
          let node : node_of e ≡ at.node = ap (λ (a : Address). a.node) same in
          λ i. (ap (λ k. same_address (streams_at c.net k) at) (sym node) ∙ is) i
          && (ap (λ k. is_some (node_at w k)) (sym node) ∙ ap is_some stands) i

      go : (d : Bool) → same_address (streams_at c.net (node_of e)) at ≡ d
          → (cond d o.state.streams ((after t.setting t.history).tables at)).ends ≡ []
      go true g = absurd (true≢false (sym (its_own g) ∙ before))
      go false g = t.elsewhere at before

  pub good_next : Good A w c ss m wires e o
  good_next = (
    moved m (streams (done t.setting (after t.setting t.history) h.happening)),
    allows,
    record {
      setting = t.setting;
      history = h.happening ∷ t.history;
      lawful = t.lawful;
      numbers = t.numbers;
      ours = t.ours;
      timely = (h.timely, t.timely);
      in_range = (h.in_range, t.in_range);
      here = (h.here, t.here);
      events = ap (λ i. i + 1) (t.events ∙ sym h.same_event);
      ends = λ j y is. found_after (node_of e) j o.state n y w.nodes
          (HasEnds c.net t.setting (h.happening ∷ t.history) j) number stands is
          (λ same. subst (λ i. HasEnds c.net t.setting (h.happening ∷ t.history) i o.state) same mine)
          (λ apart g. another j y apart (t.ends j y g));
      elsewhere = nowhere;
      sent = subst (Entries stream_coding (wires ++ map (wire w.events) o.out)) (sym h.sent)
          (entries_both stream_coding wires (map (wire w.events) o.out) (after t.setting t.history).sent h.more t.sent
          (entries_of stream_coding w.events (after t.setting t.history).event o.out h.more t.events h.posts));
      drawn = subst (AllByRecursion (IsNoted later.last later.events)) (sym h.drawn)
          (all_noted_then w.last w.events (after t.setting t.history).event c.net (node_of e) (drawn_by o.report)
          (identifiers (streams (after t.setting t.history))) t.events t.drawn);
      streams_are = refl;
      count = ap (λ i. i + 1) (t.count ∙ sym h.same_event);
    },
  )

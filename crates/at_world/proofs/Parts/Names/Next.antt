-- The tie of names after a step of one node.
use Rattle.std.proofs.Common.{◌≡◌, ℕ, ◌+◌, Bool, true, false, cond, List, [], ◌∷◌, ◌++◌, length, map, Some, refl, sym}
use Rattle.std.proofs.Common.{ap, subst, ◌∙◌, arith}
use Rattle.std.specs.Prelude.{◌==◌, ◌&&◌}
use Rattle.std.proofs.lemmas.Bool.{true≢false, eq-eqb, lt-ltb}
use Rattle.at_ddp.specs.Address.{same_address}
use Rattle.at_ddp.specs.declared.address.Address.{Address}
use Rattle.at_ddp.proofs.Octets.{same_address-true}
use Rattle.at_nbp.specs.NameTables.{Table}
use Rattle.at_ddp.proofs.PostLemmas.{put_here}
use Rattle.at_world.proofs.Entries.{Entries, entries_both, entries_of}
use Rattle.at_nbp.specs.Network.{after, done}
use Rattle.at_name_socket.specs.NameSockets.{names_of}
use Rattle.at_name_socket.specs.Sockets.{open_at}
use Rattle.at_node.specs.Numbers.{drawn_by}
use Rattle.at_node.specs.Nodes.{NodeState}
use Rattle.at_event.specs.Kinds.{reporter_of}
use Rattle.at_event.specs.Outcomes.{Outcome, posted}
use Rattle.at_steps.specs.NameHappenings.{Happens, is_names_socket, name_coding}
use Rattle.at_world.specs.Cables.{Cable}
use Rattle.at_world.specs.Events.{act_of, node_of}
use Rattle.at_world.specs.Machine.NameGuards.{NameMachine, StepBy}
use Rattle.at_world.specs.Machine.SessionGuards.{Sessions}
use Rattle.at_world.specs.Worlds.{WorldState, node_at, recorded}
use Rattle.at_setup.specs.declared.event.Event.{Event}
use Rattle.at_world.proofs.CableTie.{Wire, found_after, wire}
use Rattle.at_world.proofs.Parts.Names.Lookups.{Known, lookups_after, of_node, of_others, same_sockets}
use Rattle.at_world.proofs.Parts.Names.Moments.{past_next}
use Rattle.at_world.proofs.Parts.Names.Tie.{Becomes, HasSocket, NameTie, moved}
use Rattle.at_world.proofs.Parts.Names.Times.{all_noted_then}

-- the machine follows this outcome of a node's step
abbrev pub Good : (A : Type 0) (w : WorldState) (c : Cable) (ss : Sessions) (m : NameMachine) (wires : List Wire)
    → Event A → Outcome A NodeState → Type 0
Good A w c ss m wires e o = (m' : NameMachine) × StepBy ss m e o.report m' (reporter_of o.report)
    × NameTie (recorded w (node_of e) o.report o.state (map posted o.out)) c (wires ++ map (wire w.events) o.out) m'

module _ (A : Type 0) (w : WorldState) (c : Cable) (ss : Sessions) (wires : List Wire) (m : NameMachine) (e : Event A)
    (n : NodeState) (o : Outcome A NodeState) (t : NameTie w c wires m) (stands : node_at w (node_of e) ≡ Some n)
    (h : Happens t.setting t.history c.net (node_of e) n (act_of e) o) (number : o.state.seat.number ≡ node_of e)
    (b : Becomes A ss m e n o.state o.report) where
  its : HasSocket c.net t.setting t.history m (node_of e) n
  its = t.sockets (node_of e) n stands

  -- a lookup that begins now is open since the next moment
  since : length m.past ≡ (after t.setting t.history).event + 1
  since = let past = t.past in let count = past.count in let events = t.count in omega (arith, count, events)

  apart_there : (j : ℕ) → (node_of e == j) ≡ false → same_address (names_of c.net (node_of e)) (names_of c.net j)
      ≡ false
  apart_there j apart = same_sockets c.net (node_of e) j ∙ apart

  mine : HasSocket c.net t.setting (h.happening ∷ t.history) (moved m b.names (node_of e) b.change) (node_of e) o.state
  mine = record {
    small = its.small;
    stands = record {
      table = h.tables (names_of c.net (node_of e))
          ∙ put_here (after t.setting t.history).tables (names_of c.net (node_of e)) o.state.names.table;
      lookups = h.lookups (names_of c.net (node_of e))
          ∙ put_here (after t.setting t.history).lookups (names_of c.net (node_of e)) o.state.names.lookups;
    };
    socket = h.socket;
    own = h.own;
    known = λ id. subst (Known c.net (lookups_after m.lookups (length m.past) (node_of e) b.change)
        (done (after t.setting t.history) h.happening).begun (node_of e) id) (sym (b.opened id))
        (of_node c.net (after t.setting t.history).event (length m.past) m.lookups (node_of e) b.change
        (drawn_by o.report) (after t.setting t.history).begun (done (after t.setting t.history) h.happening).begun
        since b.drawn h.begun
        (open_at n.names) its.known id);
  }

  another : (j : ℕ) (y : NodeState) → (node_of e == j) ≡ false → HasSocket c.net t.setting t.history m j y
      → HasSocket c.net t.setting (h.happening ∷ t.history) (moved m b.names (node_of e) b.change) j y
  another j y apart has =
      let old = has.stands in
      let there = apart_there j apart in
      record {
        small = has.small;
        stands = record {
          table = h.tables (names_of c.net j)
              ∙ ap (λ d. cond d o.state.names.table ((after t.setting t.history).tables (names_of c.net j))) there
              ∙ old.table;
          lookups = h.lookups (names_of c.net j)
              ∙ ap (λ d. cond d o.state.names.lookups ((after t.setting t.history).lookups (names_of c.net j))) there
              ∙ old.lookups;
        };
        socket = has.socket;
        own = has.own;
        known = λ id. of_others c.net (after t.setting t.history).event (length m.past) m.lookups (node_of e) b.change
            (drawn_by o.report) (after t.setting t.history).begun (done (after t.setting t.history) h.happening).begun
            b.drawn h.begun
            j id (open_at y.names id) apart (has.known id);
      }

  named : (k : ℕ) → (done (after t.setting t.history) h.happening).tables (names_of c.net k) ≡ b.names k
  named k = h.tables (names_of c.net k)
      ∙ (λ i. cond (same_sockets c.net (node_of e) k i) o.state.names.table (t.now k i)) ∙ sym (b.tables k)

  nowhere : (at : Address) → is_names_socket c.net at ≡ false
      → ((done (after t.setting t.history) h.happening).tables at).names ≡ []
  nowhere at none = ap (λ (x : Table). x.names) (h.tables at) ∙ go (same_address (names_of c.net (node_of e)) at) refl
    where
      is_one : is_names_socket c.net (names_of c.net (node_of e)) ≡ true
      is_one = λ i. eq-eqb c.net c.net refl i && (lt-ltb (node_of e) 255 its.small i && true)

      go : (d : Bool) → same_address (names_of c.net (node_of e)) at ≡ d
          → (cond d o.state.names.table ((after t.setting t.history).tables at)).names ≡ []
      go true g = absurd (true≢false
          (sym is_one ∙ ap (is_names_socket c.net) (same_address-true (names_of c.net (node_of e)) at g) ∙ none))
      go false g = t.elsewhere at none

  pub good_next : Good A w c ss m wires e o
  good_next = (
    moved m b.names (node_of e) b.change,
    b.allows,
    record {
      setting = t.setting;
      history = h.happening ∷ t.history;
      all_ask = t.all_ask;
      lawful = t.lawful;
      timely = (h.timely, h.answered, t.timely);
      in_range = (h.in_range, t.in_range);
      asked = (h.asked, t.asked);
      events = ap (λ i. i + 1) (t.events ∙ sym h.same_event);
      count = let events = t.count in let same = h.same_event in omega (arith, events, same);
      sockets = λ j y is. found_after (node_of e) j o.state n y w.nodes
          (HasSocket c.net t.setting (h.happening ∷ t.history) (moved m b.names (node_of e) b.change) j) number stands
          is
          (λ same. subst (λ i. HasSocket c.net t.setting (h.happening ∷ t.history)
          (moved m b.names (node_of e) b.change) i o.state) same mine)
          (λ apart g. another j y apart (t.sockets j y g));
      sent = subst (Entries name_coding (wires ++ map (wire w.events) o.out)) (sym h.sent)
          (entries_both name_coding wires (map (wire w.events) o.out) (after t.setting t.history).sent h.more t.sent
          (entries_of name_coding w.events (after t.setting t.history).event o.out h.more t.events h.posts));
      begun = all_noted_then w.last w.events (after t.setting t.history).event c.net (node_of e) (drawn_by o.report)
          (after t.setting t.history).begun (done (after t.setting t.history) h.happening).begun t.events h.begun
          t.begun;
      now = named;
      elsewhere = nowhere;
      past = past_next c.net t.setting t.history h.happening m.past b.names t.past
          (record { here = named; elsewhere = nowhere });
    },
  )

-- What ties a world to the cable: where its nodes stand, and what was ever sent.
use Rattle.std.proofs.Common.{◌≡◌, ℕ, ◌^◌, ◌<◌, Bool, true, false, cond, List, [], ◌∷◌, ◌++◌, map, Some, refl, sym, ap}
use Rattle.std.proofs.Common.{subst, ◌∙◌}
use Rattle.std.specs.Prelude.{find, ◌==◌}
use Rattle.std.proofs.lemmas.Bool.{eqb-true}
use Rattle.at_ddp.specs.Datagram.{canonical}
use Rattle.at_ddp.specs.declared.address.Address.{Address}
use Rattle.at_node.specs.Nodes.{NodeState}
use Rattle.at_event.specs.Outcomes.{Outcome, Outgoing, posted}
use Rattle.at_world.specs.Cables.{Cable}
use Rattle.at_world.specs.Sents.{SentDatagram, stamp}
use Rattle.at_nodes.specs.Nodes.{is_numbered}
use Rattle.at_world.specs.Worlds.{WorldState, node_at, recorded}
use Rattle.at_ddp.specs.Tables.{replaced}
use Rattle.at_world.proofs.Nodes.{at_after}
use Rattle.std.proofs.lemmas.List.{map-append}

-- a datagram as it was sent, and the event that sent it
pub record Wire : Type 0 where
  pub event : ℕ
  pub from : Address
  pub to : Address
  pub kind : ℕ
  pub data_ : List ℕ

abbrev pub wire : ℕ → Outgoing → Wire
wire event o = record { event = event; from = o.from; to = o.to; kind = o.kind; data_ = o.data_ }

-- the datagram in the world's list
abbrev pub spelled_wire : Wire → SentDatagram
spelled_wire x = record { event = x.event; to = x.to.node; bytes = canonical x.to x.from x.kind x.data_ }

-- a node stands on the cable, under its number
pub record SeatTie (c : Cable) (k : ℕ) (n : NodeState) : Type 0 where
  pub net : n.seat.net ≡ c.net
  pub number : n.seat.number ≡ k
  pub small : k < 256
  pub router : n.seat.router ≡ c.router

pub record CableTie (w : WorldState) (c : Cable) : Type 0 where
  pub net : c.net < 2 ^ 16
  pub router : (r : ℕ) → c.router ≡ Some r → r < 256
  pub wires : List Wire
  pub sent : w.sent ≡ map spelled_wire wires
  pub seats : (k : ℕ) (n : NodeState) → node_at w k ≡ Some n → SeatTie c k n

posted_wires : (event : ℕ) (out : List Outgoing) → map (stamp event) (map posted out)
    ≡ map spelled_wire (map (wire event) out)
posted_wires event [] = refl
posted_wires event (o ∷ out) = ap (λ l. spelled_wire (wire event o) ∷ l) (posted_wires event out)

-- a node that is found after a step: that of the step, or another as it was
pub found_after : (k j : ℕ) (x old n : NodeState) (nodes : List NodeState) (P : NodeState → Type 0) → x.seat.number ≡ k
    → find (is_numbered k) nodes ≡ Some old → find (is_numbered j) (replaced (is_numbered k) x nodes) ≡ Some n →
    (k ≡ j → P x) → ((k == j) ≡ false → find (is_numbered j) nodes ≡ Some n → P n) → P n
found_after k j x old n nodes P same stands h mine other =
    go (k == j) refl (sym (at_after k j x old nodes same stands) ∙ h)
  where
    go : (b : Bool) → (k == j) ≡ b → cond b (Some x) (find (is_numbered j) nodes) ≡ Some n → P n
    go true e g = let one : x ≡ n = cc in subst P one (mine (eqb-true k j e))
    go false e g = other e g

-- a node keeps its seat
pub seat_kept : (c : Cable) (k : ℕ) (n x : NodeState) → x.seat ≡ n.seat → SeatTie c k n → SeatTie c k x
seat_kept c k n x same its =
    record {
      net = (λ i. (same i).net) ∙ its.net;
      number = (λ i. (same i).number) ∙ its.number;
      small = its.small;
      router = (λ i. (same i).router) ∙ its.router;
    }

-- after an event whose node kept its seat
pub cable_next : (A : Type 0) (w : WorldState) (c : Cable) (k : ℕ) (n : NodeState) (o : Outcome A NodeState)
    (t : CableTie w c) → node_at w k ≡ Some n → o.state.seat ≡ n.seat →
    (now : CableTie (recorded w k o.report o.state (map posted o.out)) c)
    × (now.wires ≡ t.wires ++ map (wire w.events) o.out)
cable_next A w c k n o t stands same =
    let its = seat_kept c k n o.state same (t.seats k n stands) in (
      record {
        net = t.net;
        router = t.router;
        wires = t.wires ++ map (wire w.events) o.out;
        sent = (λ i. t.sent i ++ posted_wires w.events o.out i)
            ∙ sym (map-append spelled_wire t.wires (map (wire w.events) o.out));
        seats = λ j y h. found_after k j o.state n y w.nodes (SeatTie c j) its.number stands h
            (λ e. subst (λ i. SeatTie c i o.state) e its) (λ e g. t.seats j y g);
      },
      refl,
    )

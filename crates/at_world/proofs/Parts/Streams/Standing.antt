-- A node of a tied world in the network of its ends of streams, as the laws of its steps want it.
use Rattle.std.proofs.Common.{◌≡◌, ℕ, Some, subst, sym}
use Rattle.at_node.specs.Nodes.{NodeState}
use Rattle.at_steps.specs.StreamHappenings.{Stands}
use Rattle.at_world.specs.Cables.{Cable}
use Rattle.at_world.specs.Machine.SessionGuards.{Sessions}
use Rattle.at_world.specs.Machine.StreamGuards.{StreamMachine}
use Rattle.at_world.specs.Worlds.{WorldState, node_at}
use Rattle.at_world.proofs.CableTie.{CableTie, SeatTie}
use Rattle.at_world.proofs.Parts.Sessions.Tie.{HasSession, SessionTie}
use Rattle.at_world.proofs.Parts.Streams.Tie.{StreamTie}

module _ (w : WorldState) (c : Cable) (ss : Sessions) (m : StreamMachine) (ct : CableTie w c) (st : SessionTie w c ss)
    (t : StreamTie w c ct.wires m) (k : ℕ) (n : NodeState) (stands : node_at w k ≡ Some n) where
  its : SeatTie c k n
  its = ct.seats k n stands

  told_there : HasSession c.net (ss k) n
  told_there = st.sessions k n stands

  -- what holds of the node's place on the cable holds of its seat, and the other way
  pub at_seat : (P : ℕ → ℕ → Type 0) → P c.net k → P n.seat.net n.seat.number
  at_seat P p = subst (λ i. P i n.seat.number) (sym its.net) (subst (P c.net) (sym its.number) p)

  pub at_place : (P : ℕ → ℕ → Type 0) → P n.seat.net n.seat.number → P c.net k
  at_place P p = subst (λ i. P i k) its.net (subst (P n.seat.net) its.number p)

  pub stands_there : Stands t.setting t.history n.seat.net n.seat.number n
  stands_there =
      let has = t.ends k n stands in
      at_seat (λ net j. Stands t.setting t.history net j n) (record {
        lawful = t.lawful;
        numbers = t.numbers;
        ours = t.ours;
        timely = t.timely;
        in_range = t.in_range;
        here = t.here;
        small_net = ct.net;
        some_number = has.some;
        small_number = has.small;
        stands = has.stands;
        finds = let told = told_there in (told.fits).finds;
      })

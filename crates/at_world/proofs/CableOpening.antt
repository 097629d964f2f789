-- The cable of the opening world is that of the opening machine.
use Rattle.std.proofs.Common.{◌≡◌, ℕ, Bool, true, false, cond, List, [], ◌∷◌, map, Some, refl, subst, arith}
use Rattle.std.specs.Prelude.{find, ◌==◌}
use Rattle.std.specs.List.{list_all}
use Rattle.std.proofs.lemmas.Bool.{and_parts, eqb-true}
use Rattle.at_node.specs.Nodes.{NodeState}
use Rattle.at_setup.specs.declared.setup.NodeSetup.{NodeSetup}
use Rattle.at_setup.specs.declared.setup.Setup.{Setup}
use Rattle.at_world.specs.Cables as cables
use Rattle.at_nodes.specs.Openings.{opening_node}
use Rattle.at_world.specs.Plays.{opening_world}
use Rattle.at_setup.specs.Setups.{is_lawful_node, is_lawful}
use Rattle.at_nodes.specs.Nodes.{is_numbered}
use Rattle.at_world.proofs.CableTie.{CableTie, SeatTie}
use Rattle.at_world.proofs.LawfulSetups.{lawful_has, node_fits, router_fits}

module _ (A : Type 0) (s : Setup A) where
  seat_opens : (k : ℕ) (x : NodeSetup) → is_lawful_node x ≡ true → (x.node == k) ≡ true
      → SeatTie (cables.opening s) k (opening_node s x)
  seat_opens k x ok is =
      let same : x.node ≡ k = eqb-true x.node k is in
      let fits = node_fits x ok in
      record { net = refl; number = same; small = omega (arith, same, fits); router = refl }

  seats_open : (ns : List NodeSetup) → list_all is_lawful_node ns ≡ true → (k : ℕ) (n : NodeState)
      → find (is_numbered k) (map (opening_node s) ns) ≡ Some n → SeatTie (cables.opening s) k n
  seats_open [] ok k n h = absurd (cc)
  seats_open (x ∷ ns) ok k n h = go (λ each g. seats_open ns each k n g) (x.node == k) refl h
    where
      go : (list_all is_lawful_node ns ≡ true → find (is_numbered k) (map (opening_node s) ns) ≡ Some n
          → SeatTie (cables.opening s) k n) → (b : Bool) → (x.node == k) ≡ b
          → cond b (Some (opening_node s x)) (find (is_numbered k) (map (opening_node s) ns)) ≡ Some n
          → SeatTie (cables.opening s) k n
      go ih true e g =
          let parts = and_parts (is_lawful_node x) (list_all is_lawful_node ns) ok in
          let same : opening_node s x ≡ n = cc in
          subst (SeatTie (cables.opening s) k) same (seat_opens k x parts.0 e)
      go ih false e g = let parts = and_parts (is_lawful_node x) (list_all is_lawful_node ns) ok in ih parts.1 g

  pub cable_at_opening : is_lawful s ≡ true → (t : CableTie (opening_world s) (cables.opening s)) × (t.wires ≡ [])
  cable_at_opening ok =
      let has = lawful_has A s ok in (
        record {
          net = has.net;
          router = λ r is. router_fits s.nodes r has.each is;
          wires = [];
          sent = refl;
          seats = λ k n is. seats_open s.nodes has.each k n is;
        },
        refl,
      )

-- What a lawful setup has.
use Rattle.std.proofs.Common.{◌≡◌, ℕ, ◌<◌, ◌≤◌, Bool, true, false, cond, List, [], ◌∷◌, length, nat_le, Option, Some}
use Rattle.std.proofs.Common.{None, refl, arith}
use Rattle.std.specs.Prelude.{count_by, find, is_none, option_map, ◌==◌, ◌&&◌, ◌||◌, nat_lt}
use Rattle.std.specs.List.{list_all}
use Rattle.at_zip.specs.Zones.{IsName, IsTable, is_name, table_fault}
use Rattle.std.proofs.lemmas.Bool.{and_parts, false≢true, leb-true, ltb-true}
use Rattle.std.proofs.lemmas.List.{length-map}
use Rattle.at_setup.specs.declared.setup.NodeSetup.{NodeSetup}
use Rattle.at_setup.specs.declared.setup.Setup.{Setup}
use Rattle.at_nodes.specs.Openings.{opening_node, router_of}
use Rattle.at_world.specs.Plays.{opening_world}
use Rattle.at_setup.specs.Setups.{is_lawful_node, is_room, stands_once, has_router, are_in_zones, are_lawful_nodes}
use Rattle.at_setup.specs.Setups.{is_lawful_table, is_lawful}

-- what the layer below promises of names and tables
pub record SetupLaws : Type 0 where
  pub is_a_name : (name : List ℕ) → is_name name ≡ true → IsName name
  pub is_a_table : (names : List (List ℕ)) → table_fault names ≡ None → IsTable names

pub record Lawful {A : Type 0} (s : Setup A) : Type 0 where
  pub net : s.net < 65536
  pub few : length s.nodes ≤ 16
  pub each : list_all is_lawful_node s.nodes ≡ true
  pub one : count_by (λ (n : NodeSetup). n.router) s.nodes ≤ 1
  pub table : table_fault s.zones ≡ None
  pub local : table_fault s.local ≡ None
  pub placed : are_in_zones s.nodes ≡ true

none_is : {X : Type 0} (x : Option X) → is_none x ≡ true → x ≡ None
none_is None h = refl
none_is (Some x) h = absurd (false≢true h)

pub lawful_has : (A : Type 0) (s : Setup A) → is_lawful s ≡ true → Lawful s
lawful_has A s ok =
    let ns = s.nodes in
    let router = has_router ns in
    let last = and_parts (nat_lt 0 s.net && nat_lt s.net 65536 && are_lawful_nodes ns && is_lawful_table router s.zones)
    (is_lawful_table router s.local) ok in
    let a = and_parts (nat_lt 0 s.net && nat_lt s.net 65536 && are_lawful_nodes ns)
    (is_lawful_table router s.zones) last.0 in
    let b = and_parts (nat_lt 0 s.net && nat_lt s.net 65536) (are_lawful_nodes ns) a.0 in
    let c = and_parts (nat_lt 0 s.net) (nat_lt s.net 65536) b.0 in
    let d = and_parts (nat_le (length ns) 16 && list_all is_lawful_node ns && list_all (stands_once ns) ns
    && nat_le (count_by (λ n. n.router) ns) 1) (are_in_zones ns) b.1 in
    let e = and_parts (nat_le (length ns) 16 && list_all is_lawful_node ns && list_all (stands_once ns) ns)
    (nat_le (count_by (λ n. n.router) ns) 1) d.0 in
    let f = and_parts (nat_le (length ns) 16 && list_all is_lawful_node ns) (list_all (stands_once ns) ns) e.0 in
    let g = and_parts (nat_le (length ns) 16) (list_all is_lawful_node ns) f.0 in
    let h = and_parts (is_none (table_fault s.zones)) (router || (length s.zones == 0)) a.1 in
    let i = and_parts (is_none (table_fault s.local)) (router || (length s.local == 0)) last.1 in
    record {
      net = ltb-true s.net 65536 c.1;
      few = leb-true (length ns) 16 g.0;
      each = g.1;
      one = leb-true (count_by (λ n. n.router) ns) 1 e.1;
      table = none_is (table_fault s.zones) h.0;
      local = none_is (table_fault s.local) i.0;
      placed = d.1;
    }

-- at most 16 nodes stand from the opening on
pub opening_few : (A : Type 0) (s : Setup A) → is_lawful s ≡ true → length (opening_world s).nodes ≤ 16
opening_few A s ok = omega (arith, (lawful_has A s ok).few, length-map s.nodes (opening_node s))

-- ---- numbers of nodes

-- what a lawful node is
pub record LawfulNode (n : NodeSetup) : Type 0 where
  pub some : 0 < n.node
  pub small : n.node < 255
  pub receives : n.receive_room < 65536

pub lawful_node : (n : NodeSetup) → is_lawful_node n ≡ true → LawfulNode n
lawful_node n h =
    let a = and_parts (nat_lt 0 n.node && nat_lt n.node 255 && is_room n.receive_room) (is_room n.send_room) h in
    let b = and_parts (nat_lt 0 n.node && nat_lt n.node 255) (is_room n.receive_room) a.0 in
    let c = and_parts (nat_lt 0 n.node) (nat_lt n.node 255) b.0 in
    let d = and_parts (nat_lt 0 n.receive_room) (nat_lt n.receive_room 65536) b.1 in
    record {
      some = ltb-true 0 n.node c.0;
      small = ltb-true n.node 255 c.1;
      receives = ltb-true n.receive_room 65536 d.1;
    }

pub node_fits : (n : NodeSetup) → is_lawful_node n ≡ true → n.node < 255
node_fits n h = (lawful_node n h).small

-- the router's number is that of a node
pub router_fits : (ns : List NodeSetup) (r : ℕ) → list_all is_lawful_node ns ≡ true → router_of ns ≡ Some r → r < 256
router_fits [] r h is = absurd (cc)
router_fits (n ∷ ns) r h is = go (λ each g. router_fits ns r each g) n.router is
  where
    go : (list_all is_lawful_node ns ≡ true → router_of ns ≡ Some r → r < 256) → (b : Bool)
        → option_map (λ (x : NodeSetup). x.node) (cond b (Some n) (find (λ x. x.router) ns)) ≡ Some r → r < 256
    go ih true g =
        let same : n.node ≡ r = cc in
        let parts = and_parts (is_lawful_node n) (list_all is_lawful_node ns) h in
        let fits = node_fits n parts.0 in
        omega (arith, same, fits)
    go ih false g = let parts = and_parts (is_lawful_node n) (list_all is_lawful_node ns) h in ih parts.1 g

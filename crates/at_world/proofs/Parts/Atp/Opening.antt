-- The tie of the part of ATP and ZIP before anything happened.
use Rattle.std.proofs.Common.{◌≡◌, ℕ, ◌+◌, ◌≤◌, Bool, true, false, cond, List, [], ◌∷◌, map, Some, None, refl, sym, ap}
use Rattle.std.proofs.Common.{subst, ◌∙◌, arith}
use Rattle.std.specs.Prelude.{find, option_map, count_by, ◌==◌, ◌&&◌}
use Rattle.std.proofs.lemmas.Bool.{eqb-true}
use Rattle.std.proofs.lemmas.List.Sums.{sum_by-cons}
use Rattle.at_ddp.specs.declared.address.Address.{Address}
use Rattle.at_atp_requester.specs.Requests.{no_requests}
use Rattle.at_zip.specs.Tables.{Tables, AreTables}
use Rattle.at_zip.specs.declared.request.TableChoice.TheVariants.{All, Local}
use Rattle.at_zone_socket.specs.ZoneSockets.{Reading}
use Rattle.at_node.specs.Nodes.{NodeState, opening}
use Rattle.at_setup.specs.declared.setup.NodeSetup.{NodeSetup}
use Rattle.at_setup.specs.declared.setup.Setup.{Setup}
use Rattle.at_world.specs.Machine.AtpGuards as atp
use Rattle.at_world.specs.Cables as cables
use Rattle.at_nodes.specs.Openings.{neighbours_of, router_of, opening_node, rooms_of}
use Rattle.at_world.specs.Plays.{opening_world}
use Rattle.at_setup.specs.Setups.{is_lawful, tables_of}
use Rattle.at_nodes.specs.Nodes.{is_numbered}
use Rattle.at_world.proofs.Parts.Atp.Places.{requester_of, requester_at, service_of, served_of, records_at}
use Rattle.at_world.proofs.Parts.Atp.Tie.{IsReading, AtpTie}
use Rattle.at_world.proofs.LawfulSetups.{Lawful, SetupLaws, lawful_has}

routers-cons : (x : NodeSetup) (ns : List NodeSetup) → count_by (λ n. n.router) (x ∷ ns)
    ≡ cond x.router 1 0 + count_by (λ n. n.router) ns
routers-cons x ns = sum_by-cons (λ (n : NodeSetup). cond n.router 1 0) x ns

-- if a router is found, one is counted
router_counts : (ns : List NodeSetup) (k : ℕ) → router_of ns ≡ Some k → 1 ≤ count_by (λ n. n.router) ns
router_counts [] k is = absurd (cc)
router_counts (x ∷ ns) k is = rw (routers-cons x ns) (go (router_counts ns k) x.router is)
  where
    go : (router_of ns ≡ Some k → 1 ≤ count_by (λ n. n.router) ns) → (b : Bool)
        → option_map (λ (n : NodeSetup). n.node) (cond b (Some x) (find (λ n. n.router) ns)) ≡ Some k
        → 1 ≤ cond b 1 0 + count_by (λ n. n.router) ns
    go ih true g = omega arith
    go ih false g = let rest = ih g in omega (arith, rest)

-- ---- the nodes

module _ (A : Type 0) (s : Setup A) where
  -- of at most one router, a node that has a table is the first
  router_is : (ns : List NodeSetup) → count_by (λ n. n.router) ns ≤ 1 → (k : ℕ) (n : NodeState)
      → find (is_numbered k) (map (opening_node s) ns) ≡ Some n → (t : Tables) → n.atp.zones.tables ≡ Some t
      → router_of ns ≡ Some k
  router_is [] few k n h t has = absurd (cc)
  router_is (x ∷ ns) few k n h t has = go (λ less g. router_is ns less k n g t has) x.router (x.node == k) refl
      (subst (λ m. m ≤ 1) (routers-cons x ns) few) h
    where
      opened : Bool → NodeState
      opened b = opening (record { net = s.net; number = x.node; router = router_of s.nodes }) x.zone
          (cond b (Some (tables_of s)) None) (cond b (Some (neighbours_of s.nodes)) None) (rooms_of x)

      go : (count_by (λ n. n.router) ns ≤ 1 → find (is_numbered k) (map (opening_node s) ns) ≡ Some n → router_of ns
          ≡ Some k) → (b c : Bool) → (x.node == k) ≡ c → cond b 1 0 + count_by (λ n. n.router) ns ≤ 1
          → cond c (Some (opened b)) (find (is_numbered k) (map (opening_node s) ns)) ≡ Some n
          → option_map (λ (n : NodeSetup). n.node) (cond b (Some x) (find (λ n. n.router) ns)) ≡ Some k
      go ih true true e less g = ap Some (eqb-true x.node k e)
      go ih true false e less g = let one = router_counts ns k (ih (omega (arith, less)) g) in
          absurd (omega (arith, one, less))
      go ih false true e less g = let same : opened false ≡ n = cc in let none : None
          ≡ Some t = ap (λ (y : NodeState). y.atp.zones.tables) same ∙ has in absurd (cc)
      go ih false false e less g = ih (omega (arith, less)) g

  -- the tables of a node that has them are those of the setup
  tables_are : (ns : List NodeSetup) (k : ℕ) (n : NodeState) → find (is_numbered k) (map (opening_node s) ns) ≡ Some n
      → (t : Tables) → n.atp.zones.tables ≡ Some t → t ≡ tables_of s
  tables_are [] k n h t has = absurd (cc)
  tables_are (x ∷ ns) k n h t has = go (λ g. tables_are ns k n g t has) x.router (x.node == k) h
    where
      opened : Bool → NodeState
      opened b = opening (record { net = s.net; number = x.node; router = router_of s.nodes }) x.zone
          (cond b (Some (tables_of s)) None) (cond b (Some (neighbours_of s.nodes)) None) (rooms_of x)

      of_one : (b : Bool) → opened b ≡ n → t ≡ tables_of s
      of_one true same = let some : Some (tables_of s) ≡ Some t = ap (λ (y : NodeState). y.atp.zones.tables) same ∙ has
          in cc
      of_one false same = let none : None ≡ Some t = ap (λ (y : NodeState). y.atp.zones.tables) same ∙ has in absurd
          (cc)

      go : (find (is_numbered k) (map (opening_node s) ns) ≡ Some n → t ≡ tables_of s) → (b c : Bool)
          → cond c (Some (opened b)) (find (is_numbered k) (map (opening_node s) ns)) ≡ Some n → t ≡ tables_of s
      go ih b true g = let same : opened b ≡ n = cc in of_one b same
      go ih b false g = ih g

  nothing_begun : (ns : List NodeSetup) (k : ℕ) → requester_of (find (is_numbered k) (map (opening_node s) ns))
      ≡ no_requests
  nothing_begun [] k = refl
  nothing_begun (x ∷ ns) k = go (nothing_begun ns k) (x.node == k)
    where
      go : requester_of (find (is_numbered k) (map (opening_node s) ns)) ≡ no_requests → (b : Bool)
          → requester_of (cond b (Some (opening_node s x)) (find (is_numbered k) (map (opening_node s) ns)))
          ≡ no_requests
      go ih true = refl
      go ih false = ih

  nothing_came : (ns : List NodeSetup) (k : ℕ) → service_of (find (is_numbered k) (map (opening_node s) ns)) ≡ []
  nothing_came [] k = refl
  nothing_came (x ∷ ns) k = go (nothing_came ns k) (x.node == k)
    where
      go : service_of (find (is_numbered k) (map (opening_node s) ns)) ≡ [] → (b : Bool)
          → service_of (cond b (Some (opening_node s x)) (find (is_numbered k) (map (opening_node s) ns))) ≡ []
      go ih true = refl
      go ih false = ih

  nothing_served : (ns : List NodeSetup) (k : ℕ) → served_of (find (is_numbered k) (map (opening_node s) ns)) ≡ []
  nothing_served [] k = refl
  nothing_served (x ∷ ns) k = go (nothing_served ns k) (x.node == k)
    where
      go : served_of (find (is_numbered k) (map (opening_node s) ns)) ≡ [] → (b : Bool)
          → served_of (cond b (Some (opening_node s x)) (find (is_numbered k) (map (opening_node s) ns))) ≡ []
      go ih true = refl
      go ih false = ih

  nothing_read : (ns : List NodeSetup) (k : ℕ) (n : NodeState) → find (is_numbered k) (map (opening_node s) ns)
      ≡ Some n → n.atp.zones.reading ≡ None
  nothing_read [] k n h = absurd (cc)
  nothing_read (x ∷ ns) k n h = go (nothing_read ns k n) (x.node == k) h
    where
      go : (find (is_numbered k) (map (opening_node s) ns) ≡ Some n → n.atp.zones.reading ≡ None) → (b : Bool)
          → cond b (Some (opening_node s x)) (find (is_numbered k) (map (opening_node s) ns)) ≡ Some n
          → n.atp.zones.reading
          ≡ None
      go ih true g = let same : opening_node s x ≡ n = cc in ap (λ (y : NodeState). y.atp.zones.reading) (sym same)
      go ih false g = ih g

  requester_opens : (who : Address) → no_requests ≡ requester_at s.net (map (opening_node s) s.nodes) who
  requester_opens who = go ((s.net == who.net) && (128 == who.socket))
    where
      go : (b : Bool) → no_requests
          ≡ cond b (requester_of (find (is_numbered who.node) (map (opening_node s) s.nodes))) no_requests
      go true = sym (nothing_begun s.nodes who.node)
      go false = refl

  responder_opens : (at : Address) → [] ≡ records_at s.net (map (opening_node s) s.nodes) at
  responder_opens at = go (s.net == at.net) (129 == at.socket) (6 == at.socket)
    where
      go : (a b c : Bool) → []
          ≡ cond a (cond b (service_of (find (is_numbered at.node) (map (opening_node s) s.nodes)))
          (cond c (served_of (find (is_numbered at.node) (map (opening_node s) s.nodes))) [])) []
      go false b c = refl
      go true true c = sym (nothing_came s.nodes at.node)
      go true false true = sym (nothing_served s.nodes at.node)
      go true false false = refl

  opening_tables : SetupLaws → Lawful s → AreTables (tables_of s)
  opening_tables laws law All = laws.is_a_table s.zones law.table
  opening_tables laws law Local = laws.is_a_table s.local law.local

  none_read : {P : Type 0} (read : Reading) → None ≡ Some read → P
  none_read read h = absurd (cc)

  pub atp_at_opening : SetupLaws → is_lawful s ≡ true
      → (t : AtpTie A (opening_world s) (cables.opening s) [] (atp.opening s)) × (t.history ≡ [])
  atp_at_opening laws ok =
      let law = lawful_has A s ok in (
        record {
          are_tables = opening_tables laws law;
          history = [];
          timely = tt;
          in_range = tt;
          events = refl;
          requesters = requester_opens;
          responders = responder_opens;
          sent = tt;
          drawn = tt;
          asked = refl;
          ask_well = tt;
          tables = λ k n is t has. (tables_are s.nodes k n is t has, router_is s.nodes law.one k n is t has);
          opened = λ k n is read reads. none_read read (sym (nothing_read s.nodes k n is) ∙ reads);
          readings = λ k n is. subst (IsReading (cables.opening s) (atp.opening s) k)
              (sym (nothing_read s.nodes k n is)) tt;
          on_net = tt;
        },
        refl,
      )

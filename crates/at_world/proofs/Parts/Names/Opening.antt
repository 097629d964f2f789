-- The tie of names before anything happened.
use Rattle.std.proofs.Common.{◌≡◌, ℕ, ◌<◌, Bool, true, false, cond, List, [], ◌∷◌, find, map, Option, Some, None, refl}
use Rattle.std.proofs.Common.{sym, ap, subst, ◌∙◌, lit<, lit≤, arith}
use Rattle.std.specs.Prelude.{is_none, ◌==◌}
use Rattle.std.specs.List.{AllByRecursion, list_all}
use Rattle.std.proofs.lemmas.Bool.{and_parts, eqb-true, false≢true}
use Rattle.std.proofs.lemmas.List.Elements.{All-from_recursion}
use Rattle.at_nbp.specs.Lawfully.{IsLawfulSetting}
use Rattle.at_nbp.specs.Lookups.{is_question}
use Rattle.at_nbp.specs.Network.{Setting}
use Rattle.at_nbp.specs.Tuples.{IsString}
use Rattle.at_name_socket.specs.NameSockets.{asked_by, asked_node, names_of, own_zone}
use Rattle.at_name_socket.specs.declared.neighbour.Neighbour.{Neighbour}
use Rattle.at_node.specs.Nodes.{NodeState}
use Rattle.at_world.specs.Cables as cables
use Rattle.at_world.specs.Machine.NameGuards as names
use Rattle.at_world.specs.Machine.NameGuards.{no_names, zone_at}
use Rattle.at_nodes.specs.Openings.{joined, neighbours_of, opening_node, router_of}
use Rattle.at_world.specs.Plays.{opening_world}
use Rattle.at_setup.specs.Setups.{are_in_zones, has_router, is_lawful, is_lawful_node, is_zone}
use Rattle.at_nodes.specs.Nodes.{is_numbered}
use Rattle.at_setup.specs.declared.setup.NodeSetup.{NodeSetup}
use Rattle.at_setup.specs.declared.setup.Setup.{Setup}
use Rattle.at_world.proofs.LawfulSetups.{SetupLaws, lawful_has, node_fits, router_fits}
use Rattle.at_world.proofs.Parts.Names.Moments.{first_moment}
use Rattle.at_world.proofs.Parts.Names.Tie.{HasSocket, NameLaws, NameTie}

-- ---- zones that are in range

star_fits : IsString (0x2A ∷ [])
star_fits = record { fits = lit≤ tt; bytes = All-from_recursion (λ b. b < 256) (0x2A ∷ []) (lit< tt, tt) }

zone_fits : SetupLaws → (o : Option (List ℕ)) → is_zone o ≡ true → IsString (own_zone o)
zone_fits laws None h = star_fits
zone_fits laws (Some name) h = let is = laws.is_a_name name h in record { fits = is.fits; bytes = is.bytes }

no_zone_fits : (o : Option (List ℕ)) → is_none o ≡ true → IsString (own_zone o)
no_zone_fits None h = star_fits
no_zone_fits (Some name) h = absurd (false≢true h)

-- the zone of a node, or `*`, is in range
abbrev IsPlaced : NodeSetup → Type 0
IsPlaced n = IsString (own_zone n.zone)

all_by : (p : NodeSetup → Bool) → ((n : NodeSetup) → p n ≡ true → IsPlaced n) → (ns : List NodeSetup) → list_all p ns
    ≡ true → AllByRecursion IsPlaced ns
all_by p fits [] h = tt
all_by p fits (n ∷ ns) h = let parts = and_parts (p n) (list_all p ns) h in (fits n parts.0, all_by p fits ns parts.1)

all_placed : SetupLaws → (ns : List NodeSetup) → are_in_zones ns ≡ true → AllByRecursion IsPlaced ns
all_placed laws ns = go (has_router ns)
  where
    go : (b : Bool) → cond b (list_all (λ n. is_zone n.zone) ns) (list_all (λ n. is_none n.zone) ns) ≡ true
        → AllByRecursion IsPlaced ns
    go true h = all_by (λ n. is_zone n.zone) (λ n. zone_fits laws n.zone) ns h
    go false h = all_by (λ n. is_none n.zone) (λ n. no_zone_fits n.zone) ns h

zone_known : (ns : List NodeSetup) (k : ℕ) → AllByRecursion IsPlaced ns → IsString (zone_at ns k)
zone_known [] k all = star_fits
zone_known (n ∷ ns) k all = go (zone_known ns k all.1) (n.node == k)
  where
    go : IsString (zone_at ns k) → (b : Bool) → IsString (cond b (own_zone n.zone) (zone_at ns k))
    go rest true = all.0
    go rest false = rest

neighbours_fit : (ns : List NodeSetup) → AllByRecursion IsPlaced ns
    → AllByRecursion (λ (n : Neighbour). IsString n.zone) (neighbours_of ns)
neighbours_fit [] all = tt
neighbours_fit (n ∷ ns) all = go (neighbours_fit ns all.1) n.zone all.0
  where
    go : AllByRecursion (λ (x : Neighbour). IsString x.zone) (neighbours_of ns) → (o : Option (List ℕ))
        → IsString (own_zone o) → AllByRecursion (λ (x : Neighbour). IsString x.zone)
        (joined n.node o (neighbours_of ns))
    go rest None fits = rest
    go rest (Some name) fits = (fits, rest)

-- ---- the network of the setup

module _ (A : Type 0) (laws : NameLaws A) (s : Setup A) where
  abbrev setting : Setting
  setting = record {
    zone = λ at. zone_at s.nodes at.node;
    to = λ at. names_of s.net (asked_node (router_of s.nodes));
    function = λ at. asked_by (router_of s.nodes);
  }

  asks : (o : Option ℕ) → is_question (asked_by o) ≡ true
  asks None = refl
  asks (Some router) = refl

  asked_fits : (o : Option ℕ) → ((r : ℕ) → o ≡ Some r → r < 256) → asked_node o < 256
  asked_fits None fits = lit< tt
  asked_fits (Some r) fits = fits r refl

  -- a node as it opens, among these
  record Opened (ns : List NodeSetup) (k : ℕ) (n : NodeState) : Type 0 where
    pub small : k < 255
    pub is : (x : NodeSetup) × (IsPlaced x) × (own_zone x.zone ≡ zone_at ns k)
        × (n ≡ opening_node s (record x { node = k }))

  opened : (ns : List NodeSetup) → list_all is_lawful_node ns ≡ true → AllByRecursion IsPlaced ns
      → (k : ℕ) (n : NodeState) → find (is_numbered k) (map (opening_node s) ns) ≡ Some n → Opened ns k n
  opened [] ok placed k n h = absurd (cc)
  opened (x ∷ ns) ok placed k n h = go (λ each. opened ns each placed.1 k n) (x.node == k) refl h
    where
      go : (list_all is_lawful_node ns ≡ true → find (is_numbered k) (map (opening_node s) ns) ≡ Some n
          → Opened ns k n) → (b : Bool) → (x.node == k) ≡ b
          → cond b (Some (opening_node s x)) (find (is_numbered k) (map (opening_node s) ns)) ≡ Some n
          → Opened (x ∷ ns) k n
      go ih true e g =
          let parts = and_parts (is_lawful_node x) (list_all is_lawful_node ns) ok in
          let same : x.node ≡ k = eqb-true x.node k e in
          let small = node_fits x parts.0 in
          let is : opening_node s x ≡ n = cc in
          record {
            small = omega (arith, small, same);
            is = (
              x,
              placed.0,
              sym (ap (λ b. cond b (own_zone x.zone) (zone_at ns k)) e),
              sym is
                  ∙ (λ i. opening_node s (record x { node = same i })),
            );
          }
      go ih false e g =
          let parts = and_parts (is_lawful_node x) (list_all is_lawful_node ns) ok in
          let later = ih parts.1 g in
          let it = later.is in
          record {
            small = later.small;
            is = (it.0, it.1, it.2 ∙ sym (ap (λ b. cond b (own_zone x.zone) (zone_at ns k)) e), it.3);
          }

  has_socket : AllByRecursion IsPlaced s.nodes → (k : ℕ) (n : NodeState) → Opened s.nodes k n
      → HasSocket s.net setting [] (names.opening s) k n
  has_socket placed k n o =
      let it = o.is in
      let x : NodeSetup = record it.0 { node = k } in
      subst (HasSocket s.net setting [] (names.opening s) k) (sym it.3) (record {
        small = o.small;
        stands = record {
          table = λ i. record { own = names_of s.net k; zone = sym it.2 i; names = [] };
          lookups = refl;
        };
        socket = laws.opens s.net k (router_of s.nodes) x.zone (cond x.router (Some (neighbours_of s.nodes)) None) it.1
            (λ ns is. known x.router ns is);
        own = refl;
        known = λ id. tt;
      })
    where
      known : (b : Bool) (ns : List Neighbour) → cond b (Some (neighbours_of s.nodes)) None ≡ Some ns
          → AllByRecursion (λ (y : Neighbour). IsString y.zone) ns
      known true ns is = let same : neighbours_of s.nodes
          ≡ ns = cc in subst (AllByRecursion (λ (y : Neighbour). IsString y.zone)) same (neighbours_fit s.nodes placed)
      known false ns is = absurd cc

  pub names_at_opening : SetupLaws → is_lawful s ≡ true
      → NameTie (opening_world s) (cables.opening s) [] (names.opening s)
  names_at_opening names ok =
      let has = lawful_has A s ok in
      let placed = all_placed names s.nodes has.placed in
      let lawful : IsLawfulSetting setting = record {
        zone = λ at. zone_known s.nodes at.node placed;
        to = λ at fits. record {
          net = has.net;
          node = asked_fits (router_of s.nodes) (λ r is. router_fits s.nodes r has.each is);
          socket = lit< tt;
        };
      } in
      record {
        setting = setting;
        history = [];
        all_ask = λ at. asks (router_of s.nodes);
        lawful = lawful;
        timely = tt;
        in_range = tt;
        asked = tt;
        events = refl;
        count = refl;
        sockets = λ k n is. has_socket placed k n (opened s.nodes has.each placed k n is);
        sent = tt;
        begun = tt;
        now = λ k. refl;
        elsewhere = λ at none. refl;
        past = first_moment s.net setting (no_names s) (record { here = λ k. refl; elsewhere = λ at none. refl });
      }

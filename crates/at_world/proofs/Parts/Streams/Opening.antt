-- The tie of streams before anything happened.
use Rattle.std.proofs.Common.{◌≡◌, ℕ, ◌<◌, ◌^◌, Bool, true, false, cond, List, [], ◌∷◌, find, map, Some, refl, sym, ap}
use Rattle.std.proofs.Common.{◌∙◌, lit<, arith}
use Rattle.std.specs.Prelude.{◌==◌}
use Rattle.std.specs.List.{list_all}
use Rattle.std.proofs.Math.Nat.{mod-lt}
use Rattle.std.proofs.lemmas.Bool.{and_parts, eqb-true}
use Rattle.at_adsp_end.specs.Positions.{wire as wire_numbers}
use Rattle.at_adsp_end.specs.declared.rooms.Rooms.{Rooms}
use Rattle.at_adsp_ends.specs.Tables.{no_ends}
use Rattle.at_adsp.specs.Lawfully.{IsLawfulSetting}
use Rattle.at_adsp.specs.Network.{Setting}
use Rattle.at_node.specs.Nodes.{NodeState}
use Rattle.at_steps.specs.StreamHappenings.{is_streams_socket}
use Rattle.at_world.specs.Cables as cables
use Rattle.at_nodes.specs.Openings.{opening_node, rooms_of}
use Rattle.at_world.specs.Plays.{opening_world}
use Rattle.at_setup.specs.Setups.{is_lawful, is_lawful_node}
use Rattle.at_world.specs.Machine.StreamGuards as guards
use Rattle.at_nodes.specs.Nodes.{is_numbered}
use Rattle.at_setup.specs.declared.setup.NodeSetup.{NodeSetup}
use Rattle.at_setup.specs.declared.setup.Setup.{Setup}
use Rattle.at_world.proofs.LawfulSetups.{lawful_has, lawful_node}
use Rattle.at_world.proofs.Parts.Streams.Tie.{StreamTie}

-- ---- rooms

-- the rooms of a node of these, or the least
abbrev pub rooms_at : List NodeSetup → ℕ → Rooms
rooms_at [] k = record { receive = 1; send = 1 }
rooms_at (n ∷ ns) k = cond (n.node == k) (rooms_of n) (rooms_at ns k)

rooms_fit : (ns : List NodeSetup) (k : ℕ) → list_all is_lawful_node ns ≡ true → (rooms_at ns k).receive < 2 ^ 16
rooms_fit [] k ok = lit< tt
rooms_fit (n ∷ ns) k ok = let parts = and_parts (is_lawful_node n) (list_all is_lawful_node ns) ok in
    go parts.0 (rooms_fit ns k parts.1) (n.node == k)
  where
    go : is_lawful_node n ≡ true → (rooms_at ns k).receive < 2 ^ 16 → (b : Bool)
        → (cond b (rooms_of n) (rooms_at ns k)).receive < 2 ^ 16
    go its rest true = let fits = (lawful_node n its).receives in omega (arith, fits)
    go its rest false = rest

module _ (A : Type 0) (s : Setup A) where
  abbrev setting : Setting
  setting = record { numbers = wire_numbers; rooms = λ at. rooms_at s.nodes at.node; ours = is_streams_socket s.net }

  -- a node as it opens, among these
  record Opened (ns : List NodeSetup) (k : ℕ) (n : NodeState) : Type 0 where
    pub some : 0 < k
    pub small : k < 255
    pub is : n.streams ≡ no_ends (rooms_at ns k)

  opened : (ns : List NodeSetup) → list_all is_lawful_node ns ≡ true → (k : ℕ) (n : NodeState)
      → find (is_numbered k) (map (opening_node s) ns) ≡ Some n → Opened ns k n
  opened [] ok k n h = absurd (cc)
  opened (x ∷ ns) ok k n h = let parts = and_parts (is_lawful_node x) (list_all is_lawful_node ns) ok in
      go parts.0 (opened ns parts.1 k n) (x.node == k) refl h
    where
      go : is_lawful_node x ≡ true → (find (is_numbered k) (map (opening_node s) ns) ≡ Some n → Opened ns k n)
          → (b : Bool) → (x.node == k) ≡ b
          → cond b (Some (opening_node s x)) (find (is_numbered k) (map (opening_node s) ns)) ≡ Some n
          → Opened (x ∷ ns) k n
      go lawful ih true e g =
          let same : x.node ≡ k = eqb-true x.node k e in
          let it = lawful_node x lawful in
          let small = it.small in
          let some = it.some in
          let is : opening_node s x ≡ n = cc in
          record {
            some = omega (arith, some, same);
            small = omega (arith, small, same);
            is = sym (ap (λ (y : NodeState). y.streams) is)
                ∙ sym (ap (λ b. no_ends (cond b (rooms_of x) (rooms_at ns k))) e);
          }
      go lawful ih false e g =
          let later = ih g in
          record {
            some = later.some;
            small = later.small;
            is = later.is ∙ sym (ap (λ b. no_ends (cond b (rooms_of x) (rooms_at ns k))) e);
          }

  pub streams_at_opening : is_lawful s ≡ true → StreamTie (opening_world s) (cables.opening s) [] guards.opening
  streams_at_opening ok =
      let has = lawful_has A s ok in
      let lawful : IsLawfulSetting setting =
      record { numbers = λ p. mod-lt p (lit< tt); rooms = λ at. rooms_fit s.nodes at.node has.each } in
      record {
        setting = setting;
        history = [];
        lawful = lawful;
        numbers = refl;
        ours = refl;
        timely = tt;
        in_range = tt;
        here = tt;
        events = refl;
        ends = λ k n is. let o = opened s.nodes has.each k n is in
            record { some = o.some; small = o.small; stands = sym o.is };
        elsewhere = λ at none. refl;
        sent = tt;
        drawn = tt;
        streams_are = refl;
        count = refl;
      }

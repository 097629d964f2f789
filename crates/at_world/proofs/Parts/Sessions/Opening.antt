-- Nobody was told anything when a world opens.
use Rattle.std.proofs.Common.{◌≡◌, ℕ, Bool, true, false, cond, List, [], ◌∷◌, map, Some, refl, subst}
use Rattle.std.specs.Prelude.{find, ◌==◌}
use Rattle.at_node.specs.Nodes.{NodeState}
use Rattle.at_session.specs.Sessions.{new_session}
use Rattle.at_world.specs.Cables as cables
use Rattle.at_nodes.specs.Openings.{opening_node}
use Rattle.at_world.specs.Plays.{opening_world}
use Rattle.at_world.specs.Machine.SessionGuards as guards
use Rattle.at_nodes.specs.Nodes.{is_numbered}
use Rattle.at_setup.specs.declared.setup.NodeSetup.{NodeSetup}
use Rattle.at_setup.specs.declared.setup.Setup.{Setup}
use Rattle.at_world.proofs.Parts.Sessions.Tie.{HasSession, SessionTie}

module _ (A : Type 0) (s : Setup A) where
  opened : (ns : List NodeSetup) (k : ℕ) (n : NodeState) → find (is_numbered k) (map (opening_node s) ns) ≡ Some n
      → HasSession s.net new_session n
  opened [] k n h = absurd (cc)
  opened (x ∷ ns) k n h = go (opened ns k n) (x.node == k) h
    where
      go : (find (is_numbered k) (map (opening_node s) ns) ≡ Some n → HasSession s.net new_session n) → (b : Bool)
          → cond b (Some (opening_node s x)) (find (is_numbered k) (map (opening_node s) ns)) ≡ Some n
          → HasSession s.net new_session n
      go ih true g =
          let same : opening_node s x ≡ n = cc in
          subst (HasSession s.net new_session) same (record { same = refl; fits = record { picked = tt; finds = tt } })
      go ih false g = ih g

  pub sessions_at_opening : SessionTie (opening_world s) (cables.opening s) guards.opening
  sessions_at_opening = record { sessions = λ k n is. opened s.nodes k n is }

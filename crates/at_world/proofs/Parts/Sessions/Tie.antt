-- What ties a world to what the machine knows of the sessions of the nodes' users.
use Rattle.std.proofs.Common.{◌≡◌, ℕ, Some}
use Rattle.std.specs.List.{AllByRecursion}
use Rattle.at_event.specs.Kinds.Names.{IsZone}
use Rattle.at_node.specs.Nodes.{NodeState}
use Rattle.at_session.specs.Sessions.{SessionState}
use Rattle.at_steps.specs.StreamHappenings.{IsOpenable}
use Rattle.at_world.specs.Cables.{Cable}
use Rattle.at_world.specs.Machine.SessionGuards.{Sessions}
use Rattle.at_world.specs.Worlds.{WorldState, node_at}

-- the zone that was picked is in range, and what was found lies on the network
pub record Fits (net : ℕ) (s : SessionState) : Type 0 where
  pub picked : IsZone s.picked
  pub finds : AllByRecursion (IsOpenable net) s.finds

-- the session of a node is this
pub record HasSession (net : ℕ) (s : SessionState) (n : NodeState) : Type 0 where
  pub same : n.session ≡ s
  pub fits : Fits net n.session

pub record SessionTie (w : WorldState) (c : Cable) (ss : Sessions) : Type 0 where
  pub sessions : (k : ℕ) (n : NodeState) → node_at w k ≡ Some n → HasSession c.net (ss k) n

-- What the machine knows of the sessions of the nodes' users (Inside AppleTalk, ZIP, "GetZoneList", "GetLocalZones";
-- NBP, "Name lookup").
use Rattle.std.specs.Prelude.{◌≡◌, ℕ, ◌==◌, if◌then◌else◌}
use Rattle.at_event.specs.declared.Report.{Report}
use Rattle.at_session.specs.Sessions.{SessionState, new_session}
use Rattle.at_steps.specs.SessionSteps.{IsStep}
use Rattle.at_world.specs.Events.{act_of, node_of}
use Rattle.at_setup.specs.declared.event.Event.{Event}

-- the session of each node's user: its last zone list of each kind, the zone that it picked, and what its last lookup
-- found
abbrev pub Sessions : Type 0
Sessions = ℕ → SessionState

-- nobody was told anything yet
abbrev pub opening : Sessions
opening node = new_session

-- a node's session becomes this
abbrev pub with_session : Sessions → ℕ → SessionState → Sessions
with_session ss node s k = if node == k then s else ss k

-- an event is a step of the session at its node, and the others stay
pub record SessionStep {A : Type 0} (ss : Sessions) (e : Event A) (r : Report A) (ss' : Sessions) : Type 0 where
  pub session : SessionState
  pub step : IsStep (ss (node_of e)) (act_of e) r session
  pub becomes : ss' ≡ with_session ss (node_of e) session

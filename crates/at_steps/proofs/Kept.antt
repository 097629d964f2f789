-- Outcomes of a part of a node, with what the session keeps.
use Rattle.at_event.specs.Outcomes.{Outcome}
use Rattle.at_node.specs.Nodes.{NodeState}
use Rattle.at_session.specs.Sessions.{SessionState}

-- the same outcome, after which the session is this
abbrev pub in_session : {A : Type 0} → SessionState → Outcome A NodeState → Outcome A NodeState
in_session s o = record { report = o.report; state = record o.state { session = s }; out = o.out }

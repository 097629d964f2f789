-- Whatever the session keeps, a step is the same happening.
use Rattle.std.specs.Prelude.{List}
use Rattle.at_atp.specs.Network.{Happening}
use Rattle.at_event.specs.Outcomes.{Outcome}
use Rattle.at_node.specs.Nodes.{NodeState}
use Rattle.at_session.specs.Sessions.{SessionState}
use Rattle.at_steps.specs.Acts.{Act}
use Rattle.at_steps.proofs.Protocols.Atp.Standing.{IsIts}
use Rattle.at_steps.proofs.Kept.{in_session}

pub keeping : (A : Type 0) (history : List Happening) (n : NodeState) (act : Act A) (o : Outcome A NodeState)
    (kept : SessionState) → IsIts A history n act o → IsIts A history n act (in_session kept o)
keeping A history n act o kept (h, step, sends) = (
  record {
    happening = h.happening;
    timely = h.timely;
    in_range = h.in_range;
    same_event = h.same_event;
    requesters = h.requesters;
    responders = h.responders;
    more = h.more;
    sent = h.sent;
    posts = h.posts;
    drawn = h.drawn;
    on_net = h.on_net;
    is_open = h.is_open;
    same_tables = h.same_tables;
    has_tables = h.has_tables;
    matches = h.matches;
  },
  step,
  sends,
)

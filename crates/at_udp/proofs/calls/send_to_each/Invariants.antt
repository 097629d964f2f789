use Rattle.at_udp.proofs.NodeLemmas.{Leads}
use Rattle.at_udp.proofs.calls.send_to_each.Given as goal

-- the sends so far had no fault, and what comes of the others comes of all
abbrev pub invariant-loop-node : goal.invariant-loop-node
invariant-loop-node g l =
    Leads g.S.Socket.sends l.first l.bytes l.nodes l.initial.socket l.node-index l.socket

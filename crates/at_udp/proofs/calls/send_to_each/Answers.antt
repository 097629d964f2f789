use Rattle.std.proofs.Common.{rules}
use Rattle.at_udp.proofs.NodeLemmas.{one_more}
use Rattle.at_udp.proofs.calls.send_to_each.Goals as goal

pub loop-node-preserved : goal.loop-node-preserved
loop-node-preserved g c = λ answer after more.
    c.loop-node.invariant answer after
    (one_more g.S.Socket.sends c.args.first c.args.bytes.now c.args.nodes.now c.loop-node.node-index 0
    c.loop-node-test.true c.loop-node.socket c.send_to.result c.send_to.new.socket answer after c.send_to.ensures
    (search rules))

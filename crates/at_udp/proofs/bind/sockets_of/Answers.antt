use Rattle.std.proofs.Common.{rules, ◌≡◌, ◌+◌, ◌∷◌, [], ◌++◌, get_or, take, subst, sym}
use Rattle.std.proofs.lemmas.Option.{slice_get-get_or}
use Rattle.std.specs.List.{AllZip}
use Rattle.at_udp.specs.Binds.{Has}
use Rattle.at_udp.proofs.NodeLemmas.{one_bound, one_unbound}
use Rattle.at_udp.proofs.bind.sockets_of.Goals as goal

pub returns-in-Err-clause-unbound : goal.returns-in-Err-clause-unbound
returns-in-Err-clause-unbound g c =
    one_unbound g.S.Socket.binds c.args.first c.args.nodes.now c.loop-node.node-index
    (get_or c.args.nodes.now c.loop-node.node-index 0) c.loop-node.sockets.items c.in-Err.fault
    (slice_get-get_or c.args.nodes.now c.loop-node.node-index 0 c.loop-node-test.true) c.loop-node.invariant.bound
    c.in-Err.ensures.unbound

pub loop-node-preserved : goal.loop-node-preserved
loop-node-preserved g c =
    let items : c.push.new.self.items ≡ c.loop-node.sockets.items ++ c.in-Ok-socket_of.socket ∷ [] = search rules in
    record {
      bound = subst
          (λ l. AllZip (Has g.S.Socket.binds c.args.first) (take (c.loop-node.node-index + 1) c.args.nodes.now) l)
          (sym items)
          (one_bound g.S.Socket.binds c.args.first c.args.nodes.now c.loop-node.node-index 0 c.loop-node.sockets.items
          c.in-Ok-socket_of.socket c.loop-node-test.true c.loop-node.invariant.bound
          c.in-Ok-socket_of.ensures.bound);
      room = search rules;
    }

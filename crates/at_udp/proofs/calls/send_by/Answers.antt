use Rattle.std.proofs.Common.{rules, ◌∷◌, []}
use Rattle.at_udp.specs.Sockets.{SendsEach}
use Rattle.at_udp.proofs.NodeLemmas.{one_send}
use Rattle.at_udp.proofs.calls.send_by.Goals as goal

pub returns-else-to-eq-EVERY_NODE : goal.returns-else-to-eq-EVERY_NODE
returns-else-to-eq-EVERY_NODE g c =
    let one : SendsEach g.S.Socket.sends c.args.first c.args.bytes.now (c.args.to ∷ []) c.args.socket.now
    c.send_to.result c.send_to.new.socket =
    one_send g.S.Socket.sends c.args.first c.args.bytes.now c.args.to c.args.socket.now c.send_to.result
    c.send_to.new.socket c.send_to.ensures in
    search rules

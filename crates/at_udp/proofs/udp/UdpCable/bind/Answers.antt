use Rattle.std.proofs.Common.{◌∙◌, length, ap, sym}
use Rattle.std.proofs.lemmas.Slice.Zip.{AllZip-long}
use Rattle.at_udp.specs.Binds.{Has}
use Rattle.at_udp.proofs.udp.UdpCable.bind.Goals as goal

pub invariant_of-result : goal.invariant_of-result
invariant_of-result g c =
    AllZip-long (Has g.S.Socket.binds c.args.first) c.args.nodes.now c.in-Ok-sockets_of.sockets.items
    c.in-Ok-sockets_of.ensures.bound ∙ ap length (sym c.in-Ok.ensures.items)

use Rattle.std.proofs.Common.{◌<◌, length, arith}
use Rattle.at_drive_text.proofs.NewsLemmas.{next_datagram}
use Rattle.at_drive_text.proofs.news.write_datagrams.Goals as goal

pub loop-index-preserved : goal.loop-index-preserved
loop-index-preserved g c =
    let within : c.loop-index.index < length c.args.out.now.items =
    omega (arith, c.loop-index-test.true, c.len-index-end.ensures) in
    let node = c.node.ensures in
    let bytes = c.get.ensures in
    next_datagram g.W.Paper.page c.args.first c.loop-index.index c.args.out.now.items node.0 bytes.0 c.node.result
    c.saturating_add.result c.get.result.now c.args.printer.now c.loop-index.printer c.write_datagram.new.printer within
    node.1 bytes.1 node.2 bytes.2 c.saturating_add.ensures c.loop-index.invariant c.write_datagram.ensures

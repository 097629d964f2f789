use Rattle.std.proofs.Common.{Ok, ap}
use Rattle.at_pcap.proofs.DataLemmas.{data_closed, data_unclosed}
use Rattle.at_pcap.proofs.packets.read_data.Goals as goal

pub returns-clause-closed : goal.returns-clause-closed
returns-clause-closed g c =
    let whole = c.in_ok-read_captured.ensures.whole (ap Ok c.if-not-branch.false) in
    data_closed c.args.order c.args.total c.args.left c.args.count _ c.requires whole.0 _ _ _ whole.1 c.close.result
    c.close.ensures.closed

pub returns-clause-fault : goal.returns-clause-fault
returns-clause-fault g c =
    let whole = c.in_ok-read_captured.ensures.whole (ap Ok c.if-not-branch.false) in
    data_unclosed c.args.order c.args.total c.args.left c.args.count _ c.requires whole.0 _ _ whole.1 c.close.result
    c.close.ensures.fault

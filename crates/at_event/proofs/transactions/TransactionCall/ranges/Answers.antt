use Rattle.std.proofs.Common.{sym, subst, arith}
use Rattle.std.specs.List.{AllByRecursion}
use Rattle.at_ddp.specs.Datagram.{AreBytes}
use Rattle.at_atp_frame.specs.Packets.{AreWords}
use Rattle.at_event.specs.Kinds.Transactions.{IsTransactionCall}
use Rattle.at_event.proofs.transactions.TransactionCall.ranges.Goals as goal

pub returns-in-Ask : goal.returns-in-Ask
returns-in-Ask g c =
    let user = c.ranges_of_bytes.ensures in
    let bytes = subst AreBytes c.as_slice.ensures c.ranges_of_bytes-in-Ask.ensures in
    subst IsTransactionCall (sym c.in-Ask.is)
    (omega arith, omega arith, omega arith, user, bytes, omega arith, omega arith)

pub returns-in-Answer : goal.returns-in-Answer
returns-in-Answer g c =
    let packets = subst (AllByRecursion AreWords) c.as_slice-in-Answer.ensures c.ranges_of.ensures in
    subst IsTransactionCall (sym c.in-Answer.is) (c.ranges_of_key.ensures, packets)

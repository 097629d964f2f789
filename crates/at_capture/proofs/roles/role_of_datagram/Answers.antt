use Rattle.at_capture.proofs.RoleLemmas.{in_lookup, in_neither, in_transaction}
use Rattle.at_ddp.specs.Datagram.{content}
use Rattle.at_capture.proofs.roles.role_of_datagram.Goals as goal

pub returns-then-datagram-eq-ATP : goal.returns-then-datagram-eq-ATP
returns-then-datagram-eq-ATP c =
    in_transaction (content c.args.datagram.now) c.role_in_transaction.result c.if-datagram-eq-ATP.true
    c.role_in_transaction.ensures

pub returns-then-datagram-eq-NBP : goal.returns-then-datagram-eq-NBP
returns-then-datagram-eq-NBP c =
    in_lookup (content c.args.datagram.now) c.role_in_lookup.result c.if-datagram-eq-NBP.true c.role_in_lookup.ensures

pub returns-else-datagram-eq-NBP : goal.returns-else-datagram-eq-NBP
returns-else-datagram-eq-NBP c =
    in_neither (content c.args.datagram.now) c.if-datagram-eq-ATP.false c.if-datagram-eq-NBP.false

use Rattle.at_nodes.proofs.Staying.{taking_stays}
use Rattle.at_nodes.proofs.taking.take.Goals as goal

pub returns-clause-seat : goal.returns-clause-seat
returns-clause-seat g c =
    let law = c.a_node_keeps_its_seat.ensures in
    taking_stays g.row.A.Denot law.call law.timer law.bytes c.args.input.now c.args.node.now c.give-report.new.node
    c.args.out.now.items c.give-report.new.out.items c.give-report.result c.give-report.ensures

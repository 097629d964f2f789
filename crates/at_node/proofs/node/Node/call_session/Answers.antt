use Rattle.at_node.proofs.node.Node.call_session.Goals as goal

pub returns : goal.returns
returns g c =
    let is = c.zone-1.given.1 in
    rw is (rw is at c.pick.ensures)

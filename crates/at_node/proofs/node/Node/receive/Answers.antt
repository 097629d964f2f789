use Rattle.at_node.proofs.node.Node.receive.Goals as goal

pub returns : goal.returns
returns g c = rw c.of.ensures at c.hear.ensures

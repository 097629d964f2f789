use Rattle.at_node.proofs.OnceLists.{timers_once}
use Rattle.at_node.proofs.node.Node.timers_differ.Goals as goal

pub returns : goal.returns
returns g c = timers_once c.args.self.now c.limits.ensures c.keys_differ.ensures.zones c.keys_differ.ensures.services

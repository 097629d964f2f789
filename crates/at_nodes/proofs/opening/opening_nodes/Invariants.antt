use Rattle.std.proofs.Common.{◌≡◌, map, take}
use Rattle.at_nodes.specs.Openings.{opening_node}
use Rattle.at_nodes.specs.Nodes.{AreWithin}
use Rattle.at_nodes.proofs.opening.opening_nodes.Given as goal

-- the nodes so far stand as they begin, and keep to their limits
abbrev pub invariant-loop-n : goal.invariant-loop-n
invariant-loop-n g l = (l.nodes.items ≡ map (opening_node l.fn.setup) (take l.n-index l.setups))
    × AreWithin l.nodes.items

use Rattle.std.proofs.Common.{◌≡◌, take}
use Rattle.at_nodes.specs.Openings.{neighbours_of}
use Rattle.at_nodes.proofs.opening.neighbours_of.Given as goal

-- the nodes so far are known, if they are in zones
abbrev pub invariant-loop-n : goal.invariant-loop-n
invariant-loop-n g l = l.neighbours.items ≡ neighbours_of (take l.n-index l.nodes)

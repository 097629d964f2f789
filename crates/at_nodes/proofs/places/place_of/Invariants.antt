use Rattle.std.proofs.Common.{◌≡◌}
use Rattle.std.specs.List.{position_from}
use Rattle.at_nodes.specs.Nodes.{is_numbered}
use Rattle.at_nodes.proofs.Seeking.{sought_from}
use Rattle.at_nodes.proofs.places.place_of.Given as goal

abbrev pub invariant-loop-place : goal.invariant-loop-place
invariant-loop-place g l =
    position_from (is_numbered l.fn.number) 0 l.fn.nodes
    ≡ sought_from (is_numbered l.fn.number) l.place l.fn.nodes

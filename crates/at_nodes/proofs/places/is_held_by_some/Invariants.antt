use Rattle.std.proofs.Common.{◌≡◌}
use Rattle.std.specs.Prelude.{drop}
use Rattle.std.specs.List.{list_any}
use Rattle.at_node.specs.Numbers.{holds}
use Rattle.at_nodes.proofs.places.is_held_by_some.Given as goal

abbrev pub invariant-loop-place : goal.invariant-loop-place
invariant-loop-place g l =
    list_any (λ n. holds n l.fn.node l.fn.draw) l.fn.nodes
    ≡ list_any (λ n. holds n l.fn.node l.fn.draw) (drop l.place l.fn.nodes)

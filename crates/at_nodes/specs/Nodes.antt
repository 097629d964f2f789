-- The nodes of a cable: which one has a number, what they hold, and their limits.
use Rattle.std.specs.Prelude.{ℕ, ◌==◌, Bool, false, List, Option, Some, None}
use Rattle.std.specs.List.{AllByRecursion, list_any}
use Rattle.at_node.specs.Limits.{IsWithin}
use Rattle.at_node.specs.Nodes.{NodeState}
use Rattle.at_node.specs.Numbers.{holds}
use Rattle.at_node.specs.declared.numbers.Draw.{Draw}

-- whether a node has this number
abbrev pub is_numbered : ℕ → NodeState → Bool
is_numbered k n = n.seat.number == k

-- does some node hold a record or an end under this number of a node? not if there is no number
abbrev pub holds_some : List NodeState → ℕ → Option Draw → Bool
holds_some nodes k None = false
holds_some nodes k (Some draw) = list_any (λ n. holds n k draw) nodes

-- every node keeps to its limits
abbrev pub AreWithin : List NodeState → Type 0
AreWithin nodes = AllByRecursion IsWithin nodes

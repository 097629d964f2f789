-- The opening of a node.
use Rattle.std.specs.Prelude.{◌≡◌, ℕ, ◌==◌, Bool, true, List, map, find, Option, Some, None}
use Rattle.std.specs.List.{list_any}
use Rattle.std.specs.declared.alloc.Global.{Global}
use Rattle.at_held.specs.declared.opening.OpenFault.{OpenFault}
use Rattle.at_held.specs.declared.opening.OpenFault.TheVariants as why
use Rattle.at_node.specs.Nodes.{NodeState}
use Rattle.at_schedule.specs.Drafts.{HoldsSetup}
use Rattle.at_setup.specs.declared.setup.Setup.{Setup}
use Rattle.at_nodes.specs.Openings.{opening_node}
use Rattle.at_nodes.specs.Nodes.{is_numbered}

-- the node of this number, if the setup has one, before anything happened
abbrev pub node_of : Setup Global → ℕ → Option NodeState
node_of s number = find (is_numbered number) (map (opening_node s) s.nodes)

-- does the setup have a node of this number?
abbrev pub is_set_up : Setup Global → ℕ → Bool
is_set_up s number = list_any (λ n. n.node == number) s.nodes

-- why no node of this number of a setup is opened; memory can run out only if there is one
abbrev pub IsFaultOf : Setup Global → ℕ → OpenFault → Type 0
IsFaultOf s number why.NoSetup = ⊥
IsFaultOf s number why.NoNode = node_of s number ≡ None
IsFaultOf s number why.NoMemory = is_set_up s number ≡ true

-- the text is a schedule, and this is the node of the number in its setup
abbrev pub IsNodeOf : List ℕ → ℕ → NodeState → Type 0
IsNodeOf text number node =
    (s : Setup Global) × HoldsSetup (Some text) s × (node_of s number ≡ Some node)

-- the text is no schedule, or its setup has no node of this number; nothing is said if memory ran out
abbrev pub IsFault : List ℕ → ℕ → OpenFault → Type 0
IsFault text number why.NoSetup = (s : Setup Global) → ¬ HoldsSetup (Some text) s
IsFault text number why.NoNode = (s : Setup Global) × HoldsSetup (Some text) s × (node_of s number ≡ None)
IsFault text number why.NoMemory = Unit {0}

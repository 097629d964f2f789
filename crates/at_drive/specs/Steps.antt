-- The steps of a drive, and the nodes that take them.
use Rattle.std.specs.Prelude.{ℕ, ◌==◌, Bool, List, map}
use Rattle.std.specs.List.{list_all, list_any}
use Rattle.at_setup.specs.declared.setup.NodeSetup.{NodeSetup}
use Rattle.at_setup.specs.declared.setup.Setup.{Setup}
use Rattle.at_drive.specs.declared.step.Step.{Step}
use Rattle.at_drive.specs.declared.step.Step.TheVariants.{Call, Timer, Poll}

-- the number of the node that takes a step
abbrev pub node_of : {A : Type 0} → Step A → ℕ
node_of (Call k call) = k
node_of (Timer k timer) = k
node_of (Poll k) = k

abbrev pub number_in : NodeSetup → ℕ
number_in n = n.node

-- the numbers of a setup's nodes
abbrev pub numbers_of : {A : Type 0} → Setup A → List ℕ
numbers_of s = map number_in s.nodes

-- does a node of this number stand among these?
abbrev pub stands_in : List ℕ → ℕ → Bool
stands_in numbers k = list_any (λ n. n == k) numbers

-- does the node of each of these steps stand in the setup?
abbrev pub has_all : {A : Type 0} → Setup A → List (Step A) → Bool
has_all s steps = list_all (λ x. stands_in (numbers_of s) (node_of x)) steps

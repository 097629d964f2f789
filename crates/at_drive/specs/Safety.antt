-- What is promised of each event of a node that is driven, whatever comes. Out of memory and a refusal have no effect.
-- A number that is told is that of a fault. The node keeps to its limits, and sends no more than 131,070 datagrams.
use Rattle.std.specs.Prelude.{◌≡◌, ℕ, ◌≤◌, List, [], length, Some}
use Rattle.at_ddp.specs.Outbox.{Posted}
use Rattle.at_event.specs.declared.Report.{Report}
use Rattle.at_event.specs.declared.Report.TheVariants as report
use Rattle.at_node.specs.Limits.{IsWithin}
use Rattle.at_node.specs.Nodes.{NodeState}
use Rattle.at_node.specs.declared.numbers.Input.{Input}
use Rattle.at_node.specs.declared.numbers.Input.TheVariants as input
use Rattle.at_steps.specs.Safety.{IsTableOf, IsTableOfCall, IsReason, TransactionTable, number_told}

-- nothing happened at the node
abbrev pub HasNoEffect : NodeState → NodeState → List Posted → Type 0
HasNoEffect n n' out = (n' ≡ n) × (out ≡ [])

-- what an event with this report did to a node, and sent; it may have wanted a place for a transaction there
pub record IsSafe {A : Type 0} (Wants : TransactionTable → Type 0) (n : NodeState) (r : Report A) (n' : NodeState)
    (out : List Posted) : Type 0 where
  pub memory : r ≡ report.NoMemory → HasNoEffect n n' out
  pub refused : (number : ℕ) → r ≡ report.Refused number → HasNoEffect n n' out
  pub told : (number : ℕ) → number_told r ≡ Some number → IsReason Wants n number
  pub few : length out ≤ 131070
  pub within : IsWithin n'

-- the table of transactions in which an input may want a place
abbrev pub table_wanted : {A : Type 0} → Input A → TransactionTable → Type 0
table_wanted (input.Call call) = IsTableOfCall
table_wanted (input.Timer timer) = IsTableOfCall
table_wanted (input.Received bytes) = IsTableOf bytes.now

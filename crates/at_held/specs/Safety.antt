-- What is promised of each event of a held node, whatever comes. What is refused changes nothing and sends nothing, and
-- its number is that of a reason. No event sends more than 131,070 datagrams.
use Rattle.std.specs.Prelude.{◌≡◌, ℕ, ◌+◌, ◌≤◌, length, Some}
use Rattle.std.specs.declared.alloc.Global.{Global}
use Rattle.at_event.specs.declared.Report.{Report}
use Rattle.at_event.specs.declared.Report.TheVariants as report
use Rattle.at_held.specs.Held.{HeldState}
use Rattle.at_steps.specs.Safety.{IsReason, TransactionTable, number_told}

-- what an event did, which may want a place for a transaction there
pub record IsSafe (Wants : TransactionTable → Type 0) (old new : HeldState) : Type 0 where
  pub refused : (number : ℕ) → new.report ≡ Some (report.Refused number)
      → (new.node ≡ old.node) × (new.waiting ≡ old.waiting)
  pub told : (r : Report Global) (number : ℕ) → new.report ≡ Some r → number_told r ≡ Some number
      → IsReason Wants old.node number
  pub few : length new.waiting ≤ length old.waiting + 131070

use Rattle.std.proofs.Common.{◌≡◌, ◌<◌, ◌-◌, ℕ, true}
use Rattle.std.specs.List.{list_any}
use Rattle.at_nbp.specs.NameTables.{has_number}
use Rattle.at_nbp.proofs.names.least_free.Given as goal

abbrev pub invariant-loop-number : goal.invariant-loop-number
invariant-loop-number l = (n : ℕ) → n < l.number → list_any (has_number l.socket n) l.names ≡ true

abbrev pub decreases-loop-number : goal.decreases-loop-number
decreases-loop-number l = 64 - l.number

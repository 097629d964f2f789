-- The statuses with which the program ends.
use Rattle.std.specs.Prelude.{ℕ}
use Rattle.at_print.specs.declared.status.Status.{Status}
use Rattle.at_print.specs.declared.status.Status.TheVariants.{Done, Failed}

abbrev pub code_of : Status → ℕ
code_of Done = 0
code_of Failed = 1

-- A file that can't be opened.
use Rattle.std.specs.Prelude.{◌≡◌, codes}
use Rattle.at_print.specs.Papers.{Page}
use Rattle.at_print.specs.Printers.{Prints}
use Rattle.at_print.specs.declared.printer.Printer.{Printer}
use Rattle.at_print.specs.declared.status.Status.{Status}
use Rattle.at_print.specs.declared.status.Status.TheVariants.{Failed}
use Rattle.at_diagnostics.specs.Diagnostics.{TellsReason, TellsWrites, file_of}
use Rattle.at_diagnostics.specs.Lines.{file_told}
use Rattle.at_diagnostics.specs.declared.diagnostics.Diagnostics.{Diagnostics}

-- Nothing but `fault 0` is printed. A person is told some reason, and then that something could not be written, if so.
abbrev pub IsUnopened : {W E : Type 0} → (W → Page) → (E → Page) → Status → Printer W → Printer W → Diagnostics E
    → Diagnostics E → Type 0
IsUnopened {E = E} page heard status old new before after =
    (status ≡ Failed) × Prints page old new (codes "fault 0\n")
    × ((mid : Diagnostics E) × TellsReason heard (file_told (file_of before)) before mid
    × TellsWrites heard new mid after)

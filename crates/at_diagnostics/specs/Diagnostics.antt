-- What is known of a writer of reasons.
use Rattle.std.specs.Prelude.{◌≡◌, ◌≢◌, ◌↔◌, ◌⊎◌, ℕ, Bool, List, Some}
use Rattle.at_event.specs.declared.Report.{Report}
use Rattle.at_event.specs.declared.Report.TheVariants.{Refused}
use Rattle.at_print.specs.Papers.{Page}
use Rattle.at_print.specs.Printers.{HasFailed, Prints}
use Rattle.at_print.specs.declared.printer.Printer.{Printer}
use Rattle.at_event.specs.declared.Reason.{Reason}
use Rattle.at_event.specs.Kinds.{number_of}
use Rattle.at_diagnostics.specs.Lines.{IsOneLine, refusal_told, stop_told, unwritten_told}
use Rattle.at_diagnostics.specs.NumberSets.{HasNumber}
use Rattle.at_diagnostics.specs.declared.diagnostics.Diagnostics.{Diagnostics}
use Rattle.at_diagnostics.specs.declared.stop.Stop.{Stop}

-- the name of the file that the reasons are about
abbrev pub file_of : {W : Type 0} → Diagnostics W → List ℕ
file_of diagnostics = diagnostics.file.now

-- where they are printed
abbrev pub printer_of : {W : Type 0} → Diagnostics W → Printer W
printer_of diagnostics = diagnostics.printer

-- of each number 0 to 255, whether the refusal of this number was told
abbrev pub told_by : {W : Type 0} → Diagnostics W → List Bool
told_by diagnostics = diagnostics.refusals.has

-- the refusal of this number was told
abbrev pub HasTold : {W : Type 0} → Diagnostics W → ℕ → Type 0
HasTold diagnostics n = HasNumber (told_by diagnostics) n

-- this line is told, and no number is noted
pub record TellsLine {W : Type 0} (page : W → Page) (line : List ℕ) (old new : Diagnostics W) : Type 0 where
  pub file : file_of new ≡ file_of old
  pub told : told_by new ≡ told_by old
  pub printed : Prints page (printer_of old) (printer_of new) line

-- this line is told with some reason
abbrev pub TellsReason : {W : Type 0} → (W → Page) → (List ℕ → List ℕ) → Diagnostics W → Diagnostics W → Type 0
TellsReason page line old new = (reason : List ℕ) × IsOneLine reason × TellsLine page (line reason) old new

-- Of the report of the event of this place, in the line of this number or 0 if that is not known: if it is a refusal,
-- its number is noted, and told if it was not told before and some refusal has it.
pub record TellsReport {A W : Type 0} (page : W → Page) (report : Report A) (at line : ℕ) (old new : Diagnostics W)
    : Type 0 where
  pub file : file_of new ≡ file_of old
  pub told : (n : ℕ) → HasTold new n ↔ ((report ≡ Refused n) ⊎ HasTold old n)
  pub once : (n : ℕ) → report ≡ Refused n → HasTold old n → printer_of new ≡ printer_of old
  pub printed : (n : ℕ) → report ≡ Refused n → ¬ HasTold old n → (why : Reason) → number_of why ≡ Some n
      → (reason : List ℕ) × IsOneLine reason
      × Prints page (printer_of old) (printer_of new) (refusal_told (file_of old) n at line reason)
  pub unknown : (n : ℕ) → report ≡ Refused n → ((why : Reason) → number_of why ≢ Some n)
      → printer_of new ≡ printer_of old
  pub silent : ((n : ℕ) → report ≢ Refused n) → new ≡ old

-- why a play ended, with some reason
abbrev pub TellsStop : {W : Type 0} → (W → Page) → Stop → Diagnostics W → Diagnostics W → Type 0
TellsStop page stop old new = TellsReason page (stop_told (file_of old) stop) old new

-- that some of what was printed could not be written, if so
pub record TellsWrites {P W : Type 0} (page : W → Page) (written : Printer P) (old new : Diagnostics W) : Type 0 where
  pub file : file_of new ≡ file_of old
  pub told : told_by new ≡ told_by old
  pub printed : HasFailed written → Prints page (printer_of old) (printer_of new) (unwritten_told (file_of old))
  pub silent : ¬ HasFailed written → new ≡ old

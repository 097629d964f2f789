-- What a person is told of a drive.
use Rattle.std.specs.Prelude.{◌≡◌, ◌&&◌, nat_le, not, ℕ, Bool, true, false, Option, Some, None, Result, Ok, Err}
use Rattle.std.specs.Prelude.{length, slice_get}
use Rattle.at_diagnostics.specs.Diagnostics.{TellsLine, TellsReason, TellsReport, TellsStop, file_of}
use Rattle.at_diagnostics.specs.Lines.{cable_told, undriven_told}
use Rattle.at_diagnostics.specs.Stops.{stop_of}
use Rattle.at_diagnostics.specs.declared.diagnostics.Diagnostics.{Diagnostics}
use Rattle.at_drive.specs.Drives.{Logged}
use Rattle.at_event.specs.declared.Report.{Report}
use Rattle.at_drive_text.specs.declared.ending.Ending.{Ending}
use Rattle.at_drive_text.specs.declared.ending.Ending.TheVariants as ending
use Rattle.at_print.specs.Papers.{Page}

-- of the report of the step at this place, if it has one, whether it is a refusal that was not told before
abbrev pub TellsRefusal : {A W : Type 0} → (W → Page) → ℕ → Option (Report A) → Diagnostics W → Diagnostics W → Type 0
TellsRefusal page at (Some report) old new = TellsReport page report at 0 old new
TellsRefusal page at None old new = new ≡ old

-- that a call of the cable failed at the step of this place, if it did and none failed before
abbrev pub TellsCable : {W : Type 0} → (W → Page) → ℕ → Bool → Diagnostics W → Diagnostics W → Type 0
TellsCable page at true old new =
    TellsReason page (cable_told (file_of old) at) old new
TellsCable page at false old new = new ≡ old

-- what is told of a step, if the cable had failed before or not: first of its report, and then of the cable
abbrev pub TellsStep : {A W : Type 0} → (W → Page) → ℕ → Bool → Logged A → Diagnostics W → Diagnostics W → Type 0
TellsStep {W = W} page at had_failed l old new =
    (mid : Diagnostics W) × TellsRefusal page at (slice_get l.reports 0) old mid
    × TellsCable page at (not had_failed && nat_le 1 (length l.faults)) mid new

-- that there was no memory for a step, or that a line could not be read, if so
abbrev pub TellsEnd : {W : Type 0} → (W → Page) → Result (Unit {0}) Ending → Diagnostics W → Diagnostics W → Type 0
TellsEnd page (Ok u) old new = new ≡ old
TellsEnd page (Err (ending.Unwritten at)) old new = new ≡ old
TellsEnd page (Err (ending.NoMemory at)) old new = TellsLine page (undriven_told (file_of old) at) old new
TellsEnd page (Err (ending.Unread fault)) old new = TellsStop page (stop_of fault) old new

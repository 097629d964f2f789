-- What the program records: what its command line names.
use Rattle.std.specs.Prelude.{◌≡◌, ◌<◌, ℕ, List, [], length, Option, IfSome}
use Rattle.at_diagnostics.specs.Diagnostics.{TellsLine, TellsReason, TellsWrites, file_of}
use Rattle.at_diagnostics.specs.Lines.{file_told, input_told}
use Rattle.at_diagnostics.specs.declared.diagnostics.Diagnostics.{Diagnostics}
use Rattle.at_opened.specs.declared.source.Source.{Source}
use Rattle.at_opened.specs.declared.source.Source.TheVariants as source
use Rattle.at_play.specs.Ends.{longest}
use Rattle.at_print.specs.Papers.{Page}
use Rattle.at_print.specs.Printers.{Prints}
use Rattle.at_print.specs.declared.printer.Printer.{Printer}
use Rattle.at_print.specs.declared.status.Status.{Status}
use Rattle.at_print.specs.declared.status.Status.TheVariants.{Failed}
use Rattle.at_record.specs.Ends.{Recorded}
use Rattle.at_recording.specs.Recordings.{recording}

-- Nothing is written. A person is told some reason, and then that something could not be written, if so.
abbrev pub IsUnrecorded : {W E : Type 0} → (W → Page) → (E → Page) → Status → Printer W → Printer W → Diagnostics E
    → Diagnostics E → Type 0
IsUnrecorded {E = E} page heard status old new before after =
    (status ≡ Failed) × Prints page old new []
    × ((mid : Diagnostics E) × TellsReason heard (file_told (file_of before)) before mid
    × TellsWrites heard new mid after)

-- The schedule that these bytes are is recorded, if it is known which they are. One that is too long is not played.
abbrev pub RecordsBytes : (A : Type 0) {W E : Type 0} → Option (List ℕ) → (W → Page) → (E → Page) → Status → Printer W
    → Printer W → Diagnostics E → Diagnostics E → Type 0
RecordsBytes A known page heard status old new before after =
    IfSome known (λ all. longest < length all → (status ≡ Failed) × Prints page old new (recording []))
    × Recorded A page heard known status old new before after

-- A stream is told of first, and recorded as what it holds, and so is what was opened. Of a file that can't be opened
-- nothing is. L says what a stream holds, and H what a file does.
abbrev pub RecordsSource : (A : Type 0) {S F W E : Type 0} → (S → Option (List ℕ)) → (F → Option (List ℕ))
    → Source S F → (W → Page) → (E → Page) → Status → Printer W → Printer W → Diagnostics E → Diagnostics E → Type 0
RecordsSource A {E = E} L H (source.Stream stream) page heard status old new before after =
    (noted : Diagnostics E) × TellsLine heard input_told before noted
    × RecordsBytes A (L stream) page heard status old new noted after
RecordsSource A L H (source.Opened file) page heard status old new before after =
    RecordsBytes A (H file) page heard status old new before after
RecordsSource A L H (source.Unopened why) page heard status old new before after =
    IsUnrecorded page heard status old new before after

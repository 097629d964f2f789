-- What the program shows: what its command line names.
use Rattle.std.specs.Prelude.{◌≡◌, ℕ, List, Option, codes}
use Rattle.at_capture.specs.Captures.{TellsCapture, diagnostics_of, printer_of}
use Rattle.at_capture.specs.declared.capture_printer.CapturePrinter.{CapturePrinter}
use Rattle.at_diagnostics.specs.Diagnostics.{TellsLine}
use Rattle.at_diagnostics.specs.Lines.{note_told}
use Rattle.at_diagnostics.specs.Unopened.{IsUnopened}
use Rattle.at_opened.specs.declared.source.Source.{Source}
use Rattle.at_opened.specs.declared.source.Source.TheVariants as source
use Rattle.at_print.specs.Papers.{Page}
use Rattle.at_print.specs.declared.status.Status.{Status}

-- that the file is the standard input
abbrev pub input_told : List ℕ
input_told = note_told (codes "the capture is read from standard input")

-- a stream is told of first, and then shown as the bytes that it holds
pub record TellsStream {W E A : Type 0} (page : W → Page) (heard : E → Page) (known : Option (List ℕ))
    (status : Status) (old new : CapturePrinter W E A) : Type 0 where
  pub noted : CapturePrinter W E A
  pub printer : printer_of noted ≡ printer_of old
  pub told : TellsLine heard input_told (diagnostics_of old) (diagnostics_of noted)
  pub shown : TellsCapture page heard known status noted new

-- What was opened is shown as the bytes that it holds. Of a file that can't be opened nothing is. L says what a stream
-- holds, and H what a file does.
abbrev pub TellsSource : {S F W E A : Type 0} → (S → Option (List ℕ)) → (F → Option (List ℕ)) → Source S F
    → (W → Page) → (E → Page) → Status → CapturePrinter W E A → CapturePrinter W E A → Type 0
TellsSource L H (source.Stream stream) page heard status old new = TellsStream page heard (L stream) status old new
TellsSource L H (source.Opened file) page heard status old new = TellsCapture page heard (H file) status old new
TellsSource L H (source.Unopened why) page heard status old new =
    IsUnopened page heard status (printer_of old) (printer_of new) (diagnostics_of old) (diagnostics_of new)

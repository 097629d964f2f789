-- What is printed of a capture.
use Rattle.std.specs.Prelude.{◌≡◌, ◌↔◌, ℕ, ◌+◌, List, [], ◌∷◌, ◌++◌, length, Option, Result, Ok, Err, IsOk}
use Rattle.at_capture.specs.Asked.{IsAnswered, Recalls}
use Rattle.at_capture.specs.Endings.{TellsEnding, ending_line}
use Rattle.at_capture.specs.Frames.{Content, frame_of}
use Rattle.at_capture.specs.Tallies.{counted, end_line, tally_of}
use Rattle.at_capture.specs.Texts.{FrameText, FramesText, TellsVerdict, TellsVerdicts}
use Rattle.at_capture.specs.declared.capture_printer.CapturePrinter.{CapturePrinter}
use Rattle.at_capture.specs.declared.tally.FrameVerdict.{FrameVerdict}
use Rattle.at_diagnostics.specs.Diagnostics.{TellsWrites}
use Rattle.at_diagnostics.specs.declared.diagnostics.Diagnostics.{Diagnostics}
use Rattle.at_pcap.specs.Files.{HoldsFile, TellsFile}
use Rattle.at_pcap.specs.Frames.{Frame as Captured}
use Rattle.at_pcap.specs.declared.reader.CaptureError.{CaptureError}
use Rattle.at_print.specs.Papers.{Page}
use Rattle.at_print.specs.Printers.{HasFailed, Prints}
use Rattle.at_print.specs.declared.printer.Printer.{Printer}
use Rattle.at_print.specs.declared.status.Status.{Status}
use Rattle.at_print.specs.declared.status.Status.TheVariants.{Done}

-- where it prints, and where it tells reasons
abbrev pub printer_of : {W E A : Type 0} → CapturePrinter W E A → Printer W
printer_of s = s.printer

abbrev pub diagnostics_of : {W E A : Type 0} → CapturePrinter W E A → Diagnostics E
diagnostics_of s = s.diagnostics

-- ---- the frames of a file

-- a captured frame, behind those so far
abbrev pub Adds : List Content → Captured → List Content → Type 0
Adds old f new = new ≡ old ++ frame_of f ∷ []

-- the bytes, as far as they are known, have these frames up to their end, or up to this error
abbrev pub HasFrames : Option (List ℕ) → List Content → Result (Unit {0}) CaptureError → Type 0
HasFrames known frames (Ok u) = HoldsFile Adds known [] frames
HasFrames known frames (Err e) = TellsFile Adds (λ old new. new ≡ old) known [] frames e

-- ---- what is printed of a file

-- Frames of the file were printed, line by line, and then why there are no more, and how many there were. The status
-- says whether all was read and written. A person is told of the refusals, then of the ending, then of what could not
-- be written, and nothing else.
pub record TellsCapture {W E A : Type 0} (page : W → Page) (heard : E → Page) (known : Option (List ℕ))
    (status : Status) (old new : CapturePrinter W E A) : Type 0 where
  pub frames : List Content
  pub read : Result (Unit {0}) CaptureError
  pub has : HasFrames known frames read
  pub verdicts : List FrameVerdict
  pub text : List ℕ
  pub are : FramesText [] frames verdicts text
  pub printed : Prints page (printer_of old) (printer_of new)
      (text ++ (ending_line (counted (length frames)) read ++ end_line (tally_of verdicts)))
  pub done : (status ≡ Done) ↔ (IsOk read × ¬ HasFailed (printer_of new))
  pub refused : Diagnostics E
  pub ended : Diagnostics E
  pub refusals : TellsVerdicts heard verdicts (diagnostics_of old) refused
  pub ending : TellsEnding heard read refused ended
  pub writes : TellsWrites heard (printer_of new) ended (diagnostics_of new)

-- ---- the step of one frame

-- these frames were printed and counted as these, and what they ask is kept
pub record HasPrinted {W E A : Type 0} (frames : List Content) (verdicts : List FrameVerdict) (s : CapturePrinter W E A)
    : Type 0 where
  pub tally : s.tally ≡ tally_of verdicts
  pub as_many : length verdicts ≡ length frames
  pub recalls : Recalls frames s.asked

-- a frame is printed and counted, behind those that were
pub record PrintsNext {W E A : Type 0} (page : W → Page) (heard : E → Page) (frames : List Content)
    (verdicts : List FrameVerdict) (f : Content) (old new : CapturePrinter W E A) : Type 0 where
  pub answered : Option ℕ
  pub verdict : FrameVerdict
  pub text : List ℕ
  pub answers : IsAnswered frames f answered
  pub is : FrameText (counted (length frames + 1)) answered f verdict text
  pub printed : Prints page (printer_of old) (printer_of new) text
  pub told : TellsVerdict heard verdict (diagnostics_of old) (diagnostics_of new)
  pub counts : HasPrinted (frames ++ f ∷ []) (verdicts ++ verdict ∷ []) new

-- the same of any frames that were
abbrev pub PrintsFrame : {W E A : Type 0} → (W → Page) → (E → Page) → Content → CapturePrinter W E A
    → CapturePrinter W E A → Type 0
PrintsFrame page heard f old new =
    (frames : List Content) (verdicts : List FrameVerdict) → HasPrinted frames verdicts old
    → PrintsNext page heard frames verdicts f old new

-- nothing is printed or counted
pub record IsUnprinted {W E A : Type 0} (old new : CapturePrinter W E A) : Type 0 where
  pub printer : printer_of new ≡ printer_of old
  pub diagnostics : diagnostics_of new ≡ diagnostics_of old
  pub counts : (frames : List Content) (verdicts : List FrameVerdict) → HasPrinted frames verdicts old
      → HasPrinted frames verdicts new

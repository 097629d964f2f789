-- What is printed of frames.
use Rattle.std.specs.Prelude.{◌≡◌, ℕ, ◌+◌, List, [], ◌∷◌, ◌++◌, length, Option, Err}
use Rattle.std.specs.List.{FoldsTo}
use Rattle.at_capture.specs.Asked.{IsAnswered}
use Rattle.at_capture.specs.Datagrams.{DatagramText, IsSoundBy}
use Rattle.at_capture.specs.FrameLines.{answer_line, carried_line, other_line}
use Rattle.at_capture.specs.Frames.{Content}
use Rattle.at_capture.specs.Tallies.{counted}
use Rattle.at_capture.specs.declared.tally.FrameVerdict.{FrameVerdict}
use Rattle.at_capture.specs.declared.tally.FrameVerdict.TheVariants.{Shown, Refused, Other}
use Rattle.at_diagnostics.specs.Diagnostics.{TellsReason}
use Rattle.at_diagnostics.specs.Lines.{reason_told}
use Rattle.at_diagnostics.specs.declared.diagnostics.Diagnostics.{Diagnostics}
use Rattle.at_frames.specs.Carried.{Load}
use Rattle.at_frames.specs.Carries.{Carries}
use Rattle.at_frames.specs.Frames.{told}
use Rattle.at_frames.specs.declared.carried.Reason.{Reason}
use Rattle.at_print.specs.Papers.{Page}

-- a frame that carries a datagram is counted as this, by whether the datagram is sound
abbrev pub IsJudged : FrameVerdict → Type 0 → Type 0
IsJudged Shown sound = sound
IsJudged Refused sound = ¬ sound
IsJudged Other sound = ⊥

-- What is printed of the frame of this number, and what the frame is counted as: its line, its datagram and the frame
-- that it answers, or the line that says why it carries no datagram.
pub data FrameText (number : ℕ) (answered : Option ℕ) (f : Content) : FrameVerdict → List ℕ → Type 0 where
  Carried : (d : Load) (verdict : FrameVerdict) (text : List ℕ) → Carries f.link_type f.bytes d
      → DatagramText d.header d.bytes text → IsJudged verdict (IsSoundBy d.header d.bytes)
      → FrameText number answered f verdict
      (carried_line number f.time d.carrier d.stations ++ (text ++ answer_line answered))
  Empty : (reason : Reason) → told f.link_type f.bytes ≡ Err reason
      → FrameText number answered f Other (other_line number f.time reason)

-- what is printed of frames behind these others, one after the other
pub data FramesText : List Content → List Content → List FrameVerdict → List ℕ → Type 0 where
  NoMore : (before : List Content) → FramesText before [] [] []
  Next : (before : List Content) (f : Content) (frames : List Content) (answered : Option ℕ) (verdict : FrameVerdict)
      (verdicts : List FrameVerdict) (text rest : List ℕ) → IsAnswered before f answered
      → FrameText (counted (length before + 1)) answered f verdict text
      → FramesText (before ++ f ∷ []) frames verdicts rest
      → FramesText before (f ∷ frames) (verdict ∷ verdicts) (text ++ rest)

-- a person is told why a datagram is refused, and nothing else of a frame
abbrev pub TellsVerdict : {E : Type 0} → (E → Page) → FrameVerdict → Diagnostics E → Diagnostics E → Type 0
TellsVerdict heard Refused old new =
    (number : Option ℕ) × TellsReason heard (reason_told number) old new
TellsVerdict heard verdict old new = new ≡ old

-- the same of frames that were counted as these
abbrev pub TellsVerdicts : {E : Type 0} → (E → Page) → List FrameVerdict → Diagnostics E → Diagnostics E → Type 0
TellsVerdicts heard verdicts old new = FoldsTo (λ before verdict after. TellsVerdict heard verdict before after) old
    verdicts new

-- Datagrams with the short header that are shown, and what a frame is counted as by its datagram.
use Rattle.std.proofs.Common.{◌≡◌, List, ℕ, sym, subst, refl}
use Rattle.std.specs.Prelude.{◌↔◌}
use Rattle.at_capture.specs.Datagrams.{IsSoundShort}
use Rattle.at_capture.specs.Tallies.{verdict_of}
use Rattle.at_capture.specs.Texts.{IsJudged, TellsVerdict}
use Rattle.at_ddp.specs.Datagram.{Content}
use Rattle.at_diagnostics.specs.declared.diagnostics.Diagnostics.{Diagnostics}
use Rattle.at_frames.specs.Short.{BeginsWithShort}
use Rattle.at_print.specs.Papers.{Page}
use Rattle.at_print.specs.declared.status.Status.{Status}
use Rattle.at_print.specs.declared.status.Status.TheVariants.{Done, Failed}
use Rattle.at_print.specs.Reports.{IsReadable}
use Rattle.at_show.specs.Told.{TellsWhy}

-- the datagram with which the bytes begin can be read, if it is the only one
pub readable_in : (to from : ℕ) (bytes : List ℕ) (d : Content) (rest : List ℕ)
    → ((other : Content) (after : List ℕ) → BeginsWithShort to from bytes other after → (d ≡ other) × (rest ≡ after))
    → IsSoundShort to from bytes → IsReadable d.kind d.data_
readable_in to from bytes d rest only sound =
    let P : Content → Type 0 = λ e. IsReadable e.kind e.data_ in
    subst P (sym (only sound.datagram sound.rest sound.begins).0) sound.readable

-- a status is a judgement
pub judged : (s : Status) (P : Type 0) → (s ≡ Done) ↔ P → IsJudged (verdict_of s) P
judged Done P shows = shows.0 refl
judged Failed P shows = λ sound. let done = shows.1 sound in cc

-- what is told of a datagram is told of its frame
pub told_as : {E : Type 0} (heard : E → Page) (IsText : List ℕ → Type 0) (s : Status) (old new : Diagnostics E)
    → TellsWhy heard IsText s old new → TellsVerdict heard (verdict_of s) old new
told_as heard IsText Done old new tells = tells
told_as heard IsText Failed old new (text, number, is, ends, told) = (number, told)

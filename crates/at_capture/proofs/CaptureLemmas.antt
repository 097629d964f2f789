-- What is printed of the records of a capture, one after the other.
use Rattle.std.proofs.Common.{◌≡◌, ◌⊎◌, inl, inr, ℕ, suc, List, [], ◌∷◌, ◌++◌, length, map, refl, sym, ap, subst}
use Rattle.std.proofs.Common.{append_assoc, append-nil, Ok, Err, None, Some}
use Rattle.std.specs.Prelude.{◌↔◌, IsOk, Option, Result, IfErr, OnOk}
use Rattle.at_capture.specs.Captures.{Adds, HasFrames, HasPrinted, IsUnprinted, PrintsFrame, PrintsNext}
use Rattle.at_capture.specs.Captures.{TellsCapture, diagnostics_of, printer_of}
use Rattle.at_capture.specs.Endings.{TellsEnding, ending_line}
use Rattle.at_capture.specs.Tallies.{counted, end_line, tally_of}
use Rattle.at_capture.specs.Frames.{Content, frame_of}
use Rattle.at_capture.specs.Texts.{FramesText, Next, NoMore, TellsVerdicts}
use Rattle.at_capture.specs.declared.capture_printer.CapturePrinter.{CapturePrinter}
use Rattle.at_capture.specs.declared.tally.FrameVerdict.{FrameVerdict}
use Rattle.at_diagnostics.specs.Diagnostics.{TellsWrites}
use Rattle.at_diagnostics.specs.declared.diagnostics.Diagnostics.{Diagnostics}
use Rattle.std.specs.List.{FoldsTo}
use Rattle.at_pcap.specs.Files.{BegunFile, HoldsFile, Nothing, TellsFile}
use Rattle.at_pcap.specs.Frames.{Frame as Captured}
use Rattle.at_pcap.specs.Readings.{AreFirst}
use Rattle.at_pcap.specs.declared.reader.CaptureError.{CaptureError}
use Rattle.at_pcap.specs.declared.reader.CaptureError.TheVariants as broken
use Rattle.at_print.specs.Papers.{Page}
use Rattle.at_print.specs.Printers.{HasFailed, Prints}
use Rattle.at_print.specs.declared.status.Status.{Status}
use Rattle.at_print.specs.declared.status.Status.TheVariants.{Done}
use Rattle.at_print.proofs.PrintLemmas.{Prints-nothing, Prints-trans}

-- each of these frames is added behind those so far
adds_all : (fs : List Captured) (done : List Content) → FoldsTo Adds done fs (done ++ map frame_of fs)
adds_all [] done = sym (append-nil done)
adds_all (f ∷ fs) done = (
  done ++ frame_of f ∷ [],
  refl,
  subst (FoldsTo Adds (done ++ frame_of f ∷ []) fs)
      (append_assoc done (frame_of f ∷ []) (map frame_of fs)) (adds_all fs (done ++ frame_of f ∷ [])),
)

-- these frames were printed, behind others that were counted as these
pub record Printed {W E A : Type 0} (page : W → Page) (heard : E → Page) (before : List Content)
    (verdicts : List FrameVerdict) (frames : List Content) (old new : CapturePrinter W E A) : Type 0 where
  pub more : List FrameVerdict
  pub text : List ℕ
  pub are : FramesText before frames more text
  pub prints : Prints page (printer_of old) (printer_of new) text
  pub told : TellsVerdicts heard more (diagnostics_of old) (diagnostics_of new)
  pub counts : HasPrinted (before ++ frames) (verdicts ++ more) new
  pub as_many : length more ≡ length frames

-- the frames of what was read of a capture, which were printed
pub record Told {W E A : Type 0} (page : W → Page) (heard : E → Page) (known : Option (List ℕ))
    (read : Result (Unit {0}) CaptureError) (old new : CapturePrinter W E A) : Type 0 where
  pub frames : List Content
  pub has : HasFrames known frames read
  pub printed : Printed page heard [] [] frames old new

-- any bytes begin with none
first_nothing : (known : Option (List ℕ)) → AreFirst known []
first_nothing None = tt
first_nothing (Some all) = (all, refl)

module _ {W E A : Type 0} (page : W → Page) (heard : E → Page) where
  -- what the printer does with a frame
  abbrev takes : CapturePrinter W E A → Captured → CapturePrinter W E A → Type 0
  takes old f new = PrintsFrame page heard (frame_of f) old new

  nothing : (before : List Content) (verdicts : List FrameVerdict) (s : CapturePrinter W E A)
      → HasPrinted before verdicts s
      → Printed page heard before verdicts [] s s
  nothing before verdicts s counts = record {
    more = [];
    text = [];
    are = NoMore before;
    prints = Prints-nothing page (printer_of s);
    told = refl;
    counts = subst (λ l. HasPrinted l (verdicts ++ []) s) (sym (append-nil before))
        (subst (λ l. HasPrinted before l s) (sym (append-nil verdicts)) counts);
    as_many = refl;
  }

  one_more : (before : List Content) (verdicts : List FrameVerdict) (f : Content) (frames : List Content)
      (old mid new : CapturePrinter W E A) → (next : PrintsNext page heard before verdicts f old mid)
      → Printed page heard (before ++ f ∷ []) (verdicts ++ next.verdict ∷ []) frames mid new
      → Printed page heard before verdicts (f ∷ frames) old new
  one_more before verdicts f frames old mid new next rest = record {
    more = next.verdict ∷ rest.more;
    text = next.text ++ rest.text;
    are = Next before f frames next.answered next.verdict rest.more next.text rest.text next.answers next.is rest.are;
    prints = Prints-trans page (printer_of old) (printer_of mid) (printer_of new) next.text rest.text next.printed
        rest.prints;
    told = (diagnostics_of mid, next.told, rest.told);
    counts = subst (λ l. HasPrinted l (verdicts ++ next.verdict ∷ rest.more) new) (append_assoc before (f ∷ []) frames)
        (subst (λ l. HasPrinted ((before ++ f ∷ []) ++ frames) l new)
        (append_assoc verdicts (next.verdict ∷ []) rest.more) rest.counts);
    as_many = ap suc rest.as_many;
  }

  printed_all : (fs : List Captured) (before : List Content) (verdicts : List FrameVerdict)
      (old new : CapturePrinter W E A)
      → HasPrinted before verdicts old → FoldsTo takes old fs new
      → Printed page heard before verdicts (map frame_of fs) old new
  printed_all [] before verdicts old new counts taken =
      subst (λ s. Printed page heard before verdicts [] old s) taken (nothing before verdicts old counts)
  printed_all (f ∷ fs) before verdicts old new counts taken =
      let next = taken.1 before verdicts counts in
      one_more before verdicts (frame_of f) (map frame_of fs) old taken.0 new next
      (printed_all fs (before ++ frame_of f ∷ []) (verdicts ++ next.verdict ∷ []) taken.0 new next.counts taken.2)

  -- nothing more was printed
  kept : (frames : List Content) (old mid new : CapturePrinter W E A) → (new ≡ mid) ⊎ IsUnprinted mid new
      → Printed page heard [] [] frames old mid → Printed page heard [] [] frames old new
  kept frames old mid new (inl same) printed =
      subst (λ s. Printed page heard [] [] frames old s) (sym same) printed
  kept frames old mid new (inr same) printed = record {
    more = printed.more;
    text = printed.text;
    are = printed.are;
    prints = subst (λ q. Prints page (printer_of old) q printed.text) (sym same.printer) printed.prints;
    told = subst (TellsVerdicts heard printed.more (diagnostics_of old)) (sym same.diagnostics) printed.told;
    counts = same.counts frames printed.more printed.counts;
    as_many = printed.as_many;
  }

  begun : (known : Option (List ℕ)) (old new : CapturePrinter W E A) → HasPrinted [] [] old
      → BegunFile takes known old new
      → (frames : List Content) × BegunFile Adds known [] frames × Printed page heard [] [] frames old new
  begun known old new counts first = (
    map frame_of first.frames,
    record {
      first = first.first;
      frames = first.frames;
      are = first.are;
      begins = first.begins;
      taken = adds_all first.frames [];
    },
    printed_all first.frames [] [] old new counts first.taken,
  )

  whole : (known : Option (List ℕ)) (old new : CapturePrinter W E A) → HasPrinted [] [] old
      → HoldsFile takes known old new → Told page heard known (Ok tt) old new
  whole known old new counts (all, frames, are, is, taken) = record {
    frames = map frame_of frames;
    has = (all, frames, are, is, adds_all frames []);
    printed = printed_all frames [] [] old new counts taken;
  }

  broken_off : (known : Option (List ℕ)) (old new : CapturePrinter W E A) (e : CaptureError) → HasPrinted [] [] old
      → TellsFile takes IsUnprinted known old new e → Told page heard known (Err e) old new
  broken_off known old new (broken.Fault fault at) counts off = record {
    frames = map frame_of off.frames;
    has = record {
      all = off.all;
      frames = off.frames;
      rest = off.rest;
      are = off.are;
      is = off.is;
      here = off.here;
      taken = adds_all off.frames [];
    };
    printed = printed_all off.frames [] [] old new counts off.taken;
  }
  broken_off known old new (broken.Unreadable why) counts tells =
      let first = begun known old new counts tells in
      record { frames = first.0; has = first.1; printed = first.2 }
  broken_off known old new broken.NoMemory counts (mid, tells, same) =
      let first = begun known old mid counts tells in
      record {
        frames = first.0;
        has = (first.0, first.1, inl refl);
        printed = kept first.0 old mid new same first.2;
      }

  -- the frames of what was read, however that ended
  pub told_of : (known : Option (List ℕ)) (old new : CapturePrinter W E A) (read : Result (Unit {0}) CaptureError)
      → HasPrinted [] [] old → OnOk read (HoldsFile takes known old new)
      → IfErr read (TellsFile takes IsUnprinted known old new) → Told page heard known read old new
  told_of known old new (Ok tt) counts holds tells = whole known old new counts holds
  told_of known old new (Err e) counts holds tells = broken_off known old new e counts tells

  -- those of a capture of which nothing was read
  pub nothing_told : (known : Option (List ℕ)) (s : CapturePrinter W E A) → HasPrinted [] [] s
      → Told page heard known (Err broken.NoMemory) s s
  nothing_told known s counts = record {
    frames = [];
    has = (
      [],
      record { first = []; frames = []; are = first_nothing known; begins = Nothing; taken = refl },
      inl refl,
    );
    printed = nothing [] [] s counts;
  }

  -- what was printed of a capture, behind the start, and then its last lines
  pub tells_capture : (known : Option (List ℕ)) (status : Status) (old start mid new : CapturePrinter W E A)
      (read : Result (Unit {0}) CaptureError) → printer_of start ≡ printer_of old
      → diagnostics_of start ≡ diagnostics_of old → Told page heard known read start mid
      → ((status ≡ Done) ↔ (IsOk read × ¬ HasFailed (printer_of new)))
      → Prints page (printer_of mid) (printer_of new) (ending_line mid.tally.frames read ++ end_line mid.tally)
      → ((late : Diagnostics E) × TellsEnding heard read (diagnostics_of mid) late
      × TellsWrites heard (printer_of new) late (diagnostics_of new))
      → TellsCapture page heard known status old new
  tells_capture known status old start mid new read printer diagnostics told done last after =
      let first = told.printed in
      let tallied : Prints page (printer_of mid) (printer_of new)
      (ending_line (counted (length first.more)) read ++ end_line (tally_of first.more)) =
      subst (λ u. Prints page (printer_of mid) (printer_of new) (ending_line u.frames read ++ end_line u))
      first.counts.tally last in
      let ending : Prints page (printer_of mid) (printer_of new)
      (ending_line (counted (length told.frames)) read ++ end_line (tally_of first.more)) =
      subst (λ n. Prints page (printer_of mid) (printer_of new)
      (ending_line (counted n) read ++ end_line (tally_of first.more))) first.as_many tallied in
      let lines : Prints page (printer_of old) (printer_of mid) first.text =
      subst (λ p. Prints page p (printer_of mid) first.text) printer first.prints in
      record {
        frames = told.frames;
        read = read;
        has = told.has;
        verdicts = first.more;
        text = first.text;
        are = first.are;
        printed = Prints-trans page (printer_of old) (printer_of mid) (printer_of new) first.text _ lines ending;
        done = done;
        refused = diagnostics_of mid;
        ended = after.0;
        refusals = subst (λ d. TellsVerdicts heard first.more d (diagnostics_of mid)) diagnostics first.told;
        ending = after.1;
        writes = after.2;
      }

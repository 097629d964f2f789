-- What is said of a schedule that was read may be said in other words, at each way that it comes from.
use Rattle.std.proofs.Common.{ℕ, Bool, true, false, List, Result, Ok, Err, inl, inr}
use Rattle.std.specs.Prelude.{Option}
use Rattle.std.specs.declared.io.Error.{Error}
use Rattle.at_diagnostics.specs.declared.diagnostics.Diagnostics.{Diagnostics}
use Rattle.at_opened.specs.declared.source.Source.{Source}
use Rattle.at_opened.specs.declared.source.Source.TheVariants as source
use Rattle.at_play.specs.Commands.{PlaysSource}
use Rattle.at_play.specs.Ends.{Account, Ended, FileText, PlayText, PlaysSentBack, PlaysStream}
use Rattle.at_play.specs.Ends.{ReadTwice}
use Rattle.at_play.specs.declared.ending.Ending.{Ending}
use Rattle.at_print.specs.Papers.{Page}
use Rattle.at_print.specs.declared.printer.Printer.{Printer}
use Rattle.at_print.specs.declared.status.Status.{Status}
use Rattle.at_schedule.specs.Drafts.{HoldsSetup}
use Rattle.at_setup.specs.declared.setup.Setup.{Setup}

-- so may be said of how a play ended, if it may of what is printed of its events
ended_as : {W E : Type 0} (P Q : Diagnostics E → Result (Unit {0}) Ending → List ℕ → Type 0)
    → ((mid : Diagnostics E) (r : Result (Unit {0}) Ending) (text : List ℕ) → P mid r text → Q mid r text)
    → (page : W → Page) (heard : E → Page) (status : Status) (old new : Printer W) (after : Diagnostics E)
    → Ended P page heard status old new after → Ended Q page heard status old new after
ended_as P Q says page heard status old new after h = record {
  result = h.result;
  text = h.text;
  mid = h.mid;
  plays = says h.mid h.result h.text h.plays;
  done = h.done;
  printed = h.printed;
  unwritten = h.unwritten;
  late = h.late;
  stopped = h.stopped;
  last = h.last;
}

-- whatever is known, T says T'
abbrev Says : (A E : Type 0) → Account A E → Account A E → Type 1
Says A E T T' = (known : Option (List ℕ)) (may_fail : Bool) (IsRead : Setup A → Type 0) (old new : Diagnostics E)
    (r : Result (Unit {0}) Ending) (text : List ℕ) → T known may_fail IsRead old new r text
    → T' known may_fail IsRead old new r text

module _ (A : Type 0) {E : Type 0} (T T' : Account A E) (says : Says A E T T') where
  text_as : (known : Option (List ℕ)) (old new : Diagnostics E) (r : Result (Unit {0}) Ending) (text : List ℕ)
      → PlayText A T known old new r text → PlayText A T' known old new r text
  text_as known old new r text (inl h) = inl h
  text_as known old new r text (inr h) = inr (says known false (HoldsSetup known) old new r text h)

  module _ {F : Type 0} (remaining : F → Option (List ℕ)) (B : F → Result (Unit {0}) Error → F → Type 0) where
    twice_as : (old new : Diagnostics E) (r : Result (Unit {0}) Ending) (text : List ℕ)
        → ReadTwice A T remaining B old new r text → ReadTwice A T' remaining B old new r text
    twice_as old new r text (inl h) = inl h
    twice_as old new r text (inr (first, inl h)) = inr (first, inl h)
    twice_as old new r text (inr (first, inr (again, h))) = inr (
      first,
      inr (again, says (remaining again.file) true (HoldsSetup (remaining first.file)) old new r text h),
    )

    file_as : (old new : Diagnostics E) (r : Result (Unit {0}) Ending) (text : List ℕ)
        → FileText A T remaining B old new r text → FileText A T' remaining B old new r text
    file_as old new r text (inl h) = inl h
    file_as old new r text (inr (held, inl (fits, h))) =
        inr (held, inl (fits, text_as (remaining held.file) old new r text h))
    file_as old new r text (inr (held, inr (long, h))) = inr (held, inr (long, twice_as old new r text h))

  module _ {W : Type 0} (page : W → Page) (heard : E → Page) (status : Status) (old new : Printer W) where
    stream_as : (known : Option (List ℕ)) (before after : Diagnostics E)
        → PlaysStream A T known page heard status old new before after
        → PlaysStream A T' known page heard status old new before after
    stream_as known before after h = (
      h.0,
      ended_as (PlayText A T known before) (PlayText A T' known before) (text_as known before) page heard status old
          new after h.1,
    )

    sent_back_as : {F : Type 0} (remaining : F → Option (List ℕ)) (B : F → Result (Unit {0}) Error → F → Type 0)
        (answer : Result (Unit {0}) Error) (file : F) (before after : Diagnostics E)
        → PlaysSentBack A T remaining B answer file page heard status old new before after
        → PlaysSentBack A T' remaining B answer file page heard status old new before after
    sent_back_as remaining B (Ok u) file before after h = (
      h.0,
      ended_as (FileText A T remaining B before) (FileText A T' remaining B before) (file_as remaining B before) page
          heard status old new after h.1,
    )
    sent_back_as remaining B (Err why) file before after h = stream_as (remaining file) before after h

    pub source_as : {S F : Type 0} (L : S → Option (List ℕ)) (R : F → Option (List ℕ))
        (B : F → Result (Unit {0}) Error → F → Type 0) (from : Source S F) (before after : Diagnostics E)
        → PlaysSource A T L R B from page heard status old new before after
        → PlaysSource A T' L R B from page heard status old new before after
    source_as L R B (source.Stream stream) before after (noted, told, h) =
        (noted, told, stream_as (L stream) noted after h)
    source_as L R B (source.Opened file) before after (answer, asked, went, h) =
        (answer, asked, went, sent_back_as R B answer asked before after h)
    source_as L R B (source.Unopened why) before after h = h

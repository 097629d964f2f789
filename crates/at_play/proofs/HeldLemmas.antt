-- The play of a text in memory is one of whatever holds that text.
use Rattle.std.proofs.Common.{◌≡◌, ◌≤◌, ℕ, List, length, IfSome, Ok, Err, Result, Some, None, inl, inr, subst}
use Rattle.std.specs.Prelude.{Option}
use Rattle.at_diagnostics.specs.declared.diagnostics.Diagnostics.{Diagnostics}
use Rattle.at_faults.specs.declared.fault.Fault.{Fault as Why}
use Rattle.at_print.specs.Papers.{Page}
use Rattle.at_play.specs.Ends.{IsNotRead, IsTextFault, PlayText, PlaysText}
use Rattle.at_play.specs.declared.ending.Ending.{Ending}
use Rattle.at_play.proofs.WholePlays.{fault_of, held_of, whole_read}

text_fault : (A : Type 0) (known : Option (List ℕ)) (bytes all : List ℕ) (f : Why) → IfSome known (λ text. all ≡ text)
    → bytes ≡ all → IsTextFault A (Some bytes) f → IsTextFault A known f
text_fault A known bytes all f read same (inl h) = inl h
text_fault A known bytes all f read same (inr h) = inr (fault_of A known bytes all f read same h)

not_read_of : (A : Type 0) {E : Type 0} (known : Option (List ℕ)) (bytes all : List ℕ) (old new : Diagnostics E)
    (r : Result (Unit {0}) Ending) (text : List ℕ) → IfSome known (λ text. all ≡ text) → bytes ≡ all
    → IsNotRead (IsTextFault A (Some bytes)) old new r text → IsNotRead (IsTextFault A known) old new r text
not_read_of A known bytes all old new (Ok u) text read same h = h
not_read_of A known bytes all old new (Err e) text read same (why, none, quiet) =
    ((why.0, text_fault A known bytes all why.0 read same why.1, why.2), none, quiet)

pub play_known : (A : Type 0) {E : Type 0} (heard : E → Page) (known : Option (List ℕ)) (bytes all : List ℕ)
    (old new : Diagnostics E) (r : Result (Unit {0}) Ending) (text : List ℕ) → IfSome known (λ text. all ≡ text)
    → bytes ≡ all → PlayText A (PlaysText A heard) (Some bytes) old new r text
    → PlayText A (PlaysText A heard) known old new r text
play_known A heard known bytes all old new r text read same (inl h) =
    inl (not_read_of A known bytes all old new r text read same h)
play_known A heard known bytes all old new r text read same (inr (setup, held, p, obeys, is, whole, told)) = inr (
  setup,
  held_of A setup known bytes all read same held,
  p,
  obeys,
  is,
  whole_read A setup known bytes all r p read same whole,
  told,
)

-- a file of which all bytes were read has no more of them
pub fits_known : (known : Option (List ℕ)) (bytes : List ℕ) (most : ℕ) → IfSome known (λ all. bytes ≡ all)
    → length bytes ≤ most → IfSome known (λ all. length all ≤ most)
fits_known None bytes most whole fits = tt
fits_known (Some all) bytes most whole fits = subst (λ l. length l ≤ most) whole fits

-- What is known of a printer, and of what it prints.
use Rattle.std.specs.Prelude.{◌≡◌, ℕ, List, ◌⊎◌, Result, Ok, IsTrue, false}
use Rattle.std.specs.declared.io.Error.{Error}
use Rattle.at_print.specs.Papers.{Page, Writes}
use Rattle.at_print.specs.declared.printer.Printer.{Printer}

-- a write or a flush failed
abbrev pub HasFailed : {W : Type 0} → Printer W → Type 0
HasFailed printer = IsTrue printer.has_failed

-- just if its paper notes that one failed
abbrev pub IsTied : {W : Type 0} → (W → Page) → Printer W → Type 0
IsTied page printer = printer.has_failed ≡ (page printer.writer).has_failed

-- these bytes are printed, if it is known what the writer holds, or a write failed, and nothing after it
pub record Prints {W : Type 0} (page : W → Page) (old new : Printer W) (bytes : List ℕ) : Type 0 where
  pub stopped : HasFailed old → new ≡ old
  pub written : HasFailed new ⊎ Writes (page old.writer) (page new.writer) bytes
  pub tied : IsTied page old → IsTied page new

-- A write or a flush failed, or what the printer prints to is as a flush left it that did not fail. T says what may
-- come of a flush.
abbrev pub IsSettled : {W : Type 0} → (W → Result (Unit {0}) Error → W → Type 0) → Printer W → Type 0
IsSettled {W} T printer = HasFailed printer ⊎ ((before : W) × T before (Ok tt) printer.writer)

-- no write and no flush of any of these papers fails
abbrev pub NeverFails : {W : Type 0} → (W → Page) → Type 0
NeverFails page = (writer : _) → (page writer).has_failed ≡ false

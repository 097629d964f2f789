-- What comes of a word of the command line, which is shown in room of its own.
use Rattle.std.specs.Prelude.{◌≡◌, ◌≢◌, ◌↔◌, ◌⊎◌, ℕ, ◌/◌, List, None, codes, length}
use Rattle.at_diagnostics.specs.Diagnostics.{TellsLine, TellsReason}
use Rattle.at_diagnostics.specs.Lines.{note_told, reason_told}
use Rattle.at_diagnostics.specs.declared.diagnostics.Diagnostics.{Diagnostics}
use Rattle.at_print.specs.Papers.{Page}
use Rattle.at_print.specs.Printers.{HasFailed, Prints}
use Rattle.at_print.specs.Refusals.{no_memory_line}
use Rattle.at_print.specs.declared.printer.Printer.{Printer}
use Rattle.at_print.specs.declared.status.Status.{Status}
use Rattle.at_print.specs.declared.status.Status.TheVariants.{Done, Failed}
use Rattle.at_show.specs.Shown.{Shows}
use Rattle.at_show.specs.Texts.{WordText}
use Rattle.at_show.specs.Told.{TellsRefusal}

-- that the word `-` stands for no bytes, if it is that
pub record TellsDash {E : Type 0} (heard : E → Page) (word : List ℕ) (old new : Diagnostics E) : Type 0 where
  pub dash : word ≡ codes "-" → TellsLine heard (note_told (codes "`-` stands for no bytes")) old new
  pub other : word ≢ codes "-" → new ≡ old

-- what is printed of a word that has room for its bytes
abbrev pub OwnText : List ℕ → List ℕ → Type 0
OwnText word text = WordText word (length word / 2) text

-- There was room for the bytes. The status is `Done` just if the word is shown and no write failed. A person is told
-- nothing then, and else why it is refused.
pub record IsWordShown {W E : Type 0} (page : W → Page) (heard : E → Page) (word : List ℕ) (status : Status)
    (old new : Printer W) (before after : Diagnostics E) : Type 0 where
  pub text : List ℕ
  pub is : OwnText word text
  pub printed : Prints page old new text
  pub done : (status ≡ Done) ↔ (Shows word × ¬ HasFailed new)
  pub told : (Shows word × (after ≡ before)) ⊎ TellsRefusal heard (OwnText word) before after
  pub silent : Shows word → after ≡ before

-- there was no memory for the bytes, and nothing else is printed or told
abbrev pub IsWordUnshown : {W E : Type 0} → (W → Page) → (E → Page) → Status → Printer W → Printer W → Diagnostics E
    → Diagnostics E → Type 0
IsWordUnshown page heard status old new before after =
    (status ≡ Failed) × Prints page old new no_memory_line × TellsReason heard (reason_told None) before after

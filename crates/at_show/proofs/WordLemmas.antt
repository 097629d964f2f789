-- A word that has room for its bytes.
use Rattle.std.proofs.Common.{arith, ◌≡◌, ◌≤◌, ◌/◌, ◌⊎◌, ℕ, List, length, subst}
use Rattle.at_diagnostics.specs.declared.diagnostics.Diagnostics.{Diagnostics}
use Rattle.at_print.specs.Papers.{Page}
use Rattle.at_print.specs.Printers.{HasFailed, Prints}
use Rattle.at_print.specs.declared.printer.Printer.{Printer}
use Rattle.at_print.specs.declared.status.Status.{Status}
use Rattle.at_print.specs.declared.status.Status.TheVariants.{Done}
use Rattle.at_show.specs.Shown.{Shows}
use Rattle.at_show.specs.Texts.{WordText}
use Rattle.at_show.specs.Told.{TellsRefusal}
use Rattle.at_show.specs.Words.{IsWordShown, OwnText}

module _ {W E : Type 0} (page : W → Page) (heard : E → Page) (word : List ℕ) (status : Status) (old new : Printer W)
    (before after : Diagnostics E) where
  shown_in : (status ≡ Done → Shows word × ¬ HasFailed new) → ((text : List ℕ) × OwnText word text
      × Prints page old new text) → (Shows word → length word / 2 ≤ length word / 2 → ¬ HasFailed new → status ≡ Done)
      → ((Shows word × (after ≡ before)) ⊎ TellsRefusal heard (OwnText word) before after)
      → (Shows word → length word / 2 ≤ length word / 2 → after ≡ before)
      → IsWordShown page heard word status old new before after
  shown_in done printed only told silent =
      let enough : length word / 2 ≤ length word / 2 = omega arith in record {
        text = printed.0;
        is = printed.1;
        printed = printed.2;
        done = (done, λ both. only both.0 enough both.1);
        told = told;
        silent = λ shows. silent shows enough;
      }

  pub shown : (room : ℕ) → room ≡ length word / 2 → (status ≡ Done → Shows word × ¬ HasFailed new)
      → ((text : List ℕ) × WordText word room text × Prints page old new text)
      → (Shows word → length word / 2 ≤ room → ¬ HasFailed new → status ≡ Done)
      → ((Shows word × (after ≡ before)) ⊎ TellsRefusal heard (WordText word room) before after)
      → (Shows word → length word / 2 ≤ room → after ≡ before)
      → IsWordShown page heard word status old new before after
  shown room is done printed only told silent = shown_in done
      (subst (λ n. (text : List ℕ) × WordText word n text × Prints page old new text) is printed)
      (subst (λ n. Shows word → length word / 2 ≤ n → ¬ HasFailed new → status ≡ Done) is only)
      (subst (λ n. (Shows word × (after ≡ before)) ⊎ TellsRefusal heard (WordText word n) before after) is told)
      (subst (λ n. Shows word → length word / 2 ≤ n → after ≡ before) is silent)

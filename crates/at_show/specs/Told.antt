-- What a person is told beside what is printed.
use Rattle.std.specs.Prelude.{◌≡◌, ◌⊎◌, ℕ, List, ◌++◌, Option, None, codes}
use Rattle.at_diagnostics.specs.Diagnostics.{TellsReason}
use Rattle.at_diagnostics.specs.Lines.{reason_told}
use Rattle.at_diagnostics.specs.declared.diagnostics.Diagnostics.{Diagnostics}
use Rattle.at_print.specs.Papers.{Page}
use Rattle.at_print.specs.Refusals.{refusal_line}
use Rattle.at_print.specs.declared.status.Status.{Status}
use Rattle.at_print.specs.declared.status.Status.TheVariants.{Done, Failed}

-- the line of a refusal by this number, or of a word that spells no bytes, which has no number
abbrev pub IsRefusalLine : List ℕ → Option ℕ → Type 0
IsRefusalLine line number = (line ≡ refusal_line number) ⊎ ((line ≡ codes "fault 1\n") × (number ≡ None))

-- such a line is the last one of a text
pub record EndsWith (text : List ℕ) (number : Option ℕ) : Type 0 where
  pub front : List ℕ
  pub line : List ℕ
  pub whole : text ≡ front ++ line
  pub is : IsRefusalLine line number

-- a reason is told, with the number that is printed last, in a text of this kind
abbrev pub TellsRefusal : {W : Type 0} → (W → Page) → (List ℕ → Type 0) → Diagnostics W → Diagnostics W → Type 0
TellsRefusal page IsText old new =
    (text : List ℕ) × (number : Option ℕ) × IsText text × EndsWith text number
    × TellsReason page (reason_told number) old new

-- nothing is told of what is shown, and one reason if something is refused
abbrev pub TellsWhy : {W : Type 0} → (W → Page) → (List ℕ → Type 0) → Status → Diagnostics W → Diagnostics W → Type 0
TellsWhy page IsText Done old new = new ≡ old
TellsWhy page IsText Failed old new = TellsRefusal page IsText old new

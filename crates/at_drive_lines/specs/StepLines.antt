-- The lines of a drive that say its steps.
use Rattle.std.specs.Prelude.{◌≡◌, ◌⊎◌, ℕ, if◌then◌else◌, Bool, true, false, List, ◌∷◌, ◌++◌, Option, Some, None}
use Rattle.std.specs.Prelude.{filter, map}
use Rattle.std.specs.List.{AllZip}
use Rattle.at_words.specs.Words.{words_of}
use Rattle.at_setup.specs.declared.setup.Setup.{Setup}
use Rattle.at_schedule.specs.Schedules.{is_passed_over}
use Rattle.at_drive.specs.Steps.{node_of, numbers_of, stands_in}
use Rattle.at_drive.specs.declared.step.Step.{Step}
use Rattle.at_drive_lines.specs.Says.{AreStep, begins_step}

-- a line that is not passed over and begins with a step's word
abbrev pub is_step_line : List ℕ → Bool
is_step_line line = if is_passed_over line then false else begins_step (words_of line)

-- the words of each such line
abbrev pub step_words : List (List ℕ) → List (List (List ℕ))
step_words lines = map words_of (filter is_step_line lines)

-- A step line says the step that was read of it. Of any other line none was read, and after a step the line is passed
-- over.
abbrev pub ReadsStep : {A : Type 0} → Bool → List ℕ → Option (Step A) → Type 0
ReadsStep after_step line None = (is_step_line line ≡ false) × (after_step ≡ true → is_passed_over line ≡ true)
ReadsStep after_step line (Some s) = (is_step_line line ≡ true) × AreStep (words_of line) s

-- a node of the setup takes the step
abbrev pub IsStepOf : {A : Type 0} → Setup A → Step A → Type 0
IsStepOf setup s = stands_in (numbers_of setup) (node_of s) ≡ true

-- the line says no step that a node of the setup takes
abbrev pub SaysNoStepOf : {A : Type 0} → Setup A → List ℕ → Type 0
SaysNoStepOf {A} setup line = (s : Step A) → AreStep (words_of line) s → ¬ IsStepOf setup s

-- The line has no place in a drive of the setup: it is a step line and says no such step, or it comes after a step, is
-- no step line and is not passed over.
abbrev pub IsUnfit : {A : Type 0} → Setup A → Bool → List ℕ → Type 0
IsUnfit setup after_step line =
    ((is_step_line line ≡ true) × SaysNoStepOf setup line)
    ⊎ ((after_step ≡ true) × (is_step_line line ≡ false) × (is_passed_over line ≡ false))

-- the lines of the steps say these, each one
abbrev pub SaySteps : {A : Type 0} → List (List ℕ) → List (Step A) → Type 0
SaySteps lines steps = AllZip AreStep (step_words lines) steps

-- the first of them do
abbrev pub BeginSteps : {A : Type 0} → List (List ℕ) → List (Step A) → Type 0
BeginSteps lines steps =
    (said later : List (List (List ℕ))) × (step_words lines ≡ said ++ later) × AllZip AreStep said steps

-- the first of them do, and another one follows
abbrev pub MoreSteps : {A : Type 0} → List (List ℕ) → List (Step A) → Type 0
MoreSteps lines steps =
    (said later : List (List (List ℕ))) × (line : List (List ℕ)) × (step_words lines ≡ said ++ line ∷ later)
    × AllZip AreStep said steps

-- after the lines that say these steps another line is left
abbrev pub LineLeft : {A : Type 0} → List (List ℕ) → List (Step A) → Type 0
LineLeft lines steps =
    (read later : List (List ℕ)) × (line : List ℕ) × (lines ≡ read ++ line ∷ later) × SaySteps read steps

-- the first of them do, and the next one says this step
abbrev pub NextSays : {A : Type 0} → List (List ℕ) → List (Step A) → Step A → Type 0
NextSays lines steps s =
    (said later : List (List (List ℕ))) × (line : List (List ℕ)) × (step_words lines ≡ said ++ line ∷ later)
    × AllZip AreStep said steps × AreStep line s

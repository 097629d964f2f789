-- What was read of the lines of a drive, and which line is at fault.
use Rattle.std.specs.Prelude.{◌≡◌, ◌⊎◌, ◌<◌, ◌==◌, not, Bool, true, false, ℕ, List, [], ◌∷◌, ◌++◌, filter, length, map}
use Rattle.std.specs.Prelude.{IfSome, Option}
use Rattle.std.specs.List.{AllZip, list_all, list_any}
use Rattle.at_faults.specs.declared.fault.Fault.{Fault}
use Rattle.at_faults.specs.declared.fault.Fault.TheVariants as fault
use Rattle.at_faults.specs.Reads.{IsOfSystem}
use Rattle.at_words.specs.Words.{words_of}
use Rattle.at_setup.specs.declared.setup.Setup.{Setup}
use Rattle.at_setup_lines.specs.Drafts.{IsDraft, has_events}
use Rattle.at_schedule.specs.Drafts.{number_after}
use Rattle.at_schedule.specs.Schedules.{is_passed_over}
use Rattle.at_drive.specs.Steps.{node_of}
use Rattle.at_drive.specs.declared.step.Step.{Step}
use Rattle.at_drive_lines.specs.Says.{AreDrive, AreStep, SaysPort, have_ports, leave_port}
use Rattle.at_drive_lines.specs.declared.draft.DriveDraft.{DriveDraft}
use Rattle.at_drive_lines.specs.declared.draft.Stage.{Stage}
use Rattle.at_drive_lines.specs.declared.draft.Stage.TheVariants.{Body, Net, Port}

abbrev pub is_heard : List ℕ → Bool
is_heard line = not (is_passed_over line)

-- the words of each line that is not passed over
abbrev pub words_in : List (List ℕ) → List (List (List ℕ))
words_in lines = map words_of (filter is_heard lines)

-- more lines may follow, so that all of them are a drive
abbrev pub BeginDrive : Type 0 → List (List ℕ) → Type 0
BeginDrive A lines =
    (more : List (List ℕ)) × (s : Setup A) × (port : ℕ) × (steps : List (Step A))
    × AreDrive (words_in (lines ++ more)) s port steps

-- ---- which line is at fault

-- a drive begins with the lines before the one of this number, and none begins with that line after them
pub record IsAtFault (A : Type 0) (lines : List (List ℕ)) (number : ℕ) : Type 0 where
  pub before : List (List ℕ)
  pub line : List ℕ
  pub after : List (List ℕ)
  pub parts : lines ≡ before ++ line ∷ after
  pub numbered : number ≡ number_after before
  pub begins : BeginDrive A before
  pub never : ¬ BeginDrive A (before ++ line ∷ [])

-- a drive begins with the lines, which are none yet, and this is the number of the line after the last
pub record IsCutShort (A : Type 0) (lines : List (List ℕ)) (number : ℕ) : Type 0 where
  pub numbered : number ≡ number_after lines
  pub begins : BeginDrive A lines
  pub never : (s : Setup A) (port : ℕ) (steps : List (Step A)) → ¬ AreDrive (words_in lines) s port steps

-- The line at fault is the first one up to which no drive begins with the lines, or the one after the last if all
-- lines are no drive. That is said if the lines are known. They can't be read only if reading them may fail.
abbrev pub IsDriveFault : Type 0 → Option (List (List ℕ)) → Bool → Fault → Type 0
IsDriveFault A known may_fail (fault.Unreadable why) = IsOfSystem why × (may_fail ≡ true)
IsDriveFault A known may_fail (fault.Line number rule) =
    IfSome known (λ lines. IsAtFault A lines number ⊎ IsCutShort A lines number)
IsDriveFault A known may_fail fault.NoMemory = Unit {0}

-- these lines are a drive that begins so
abbrev pub BeginsSo : {A : Type 0} → Setup A → ℕ → List (List ℕ) → Type 0
BeginsSo {A} setup port lines = (steps : List (Step A)) × AreDrive (words_in lines) setup port steps

-- ---- what was read

-- The lines of the network and the port were read, those of the setup, and those of steps. A setup of which no step
-- was read may go on, and any router that has to follow finds a port.
pub record HasBody (A : Type 0) (lines : List (List (List ℕ))) (d : DriveDraft A) : Type 0 where
  pub net : List (List ℕ)
  pub port : List (List ℕ)
  pub head : List (List (List ℕ))
  pub last : List (List (List ℕ))
  pub parts : lines ≡ net ∷ port ∷ (head ++ last)
  pub draft : IsDraft (net ∷ head) d.setup
  pub placed : SaysPort port d.port
  pub ports : have_ports d.port (d.setup).nodes ≡ true
  pub room : leave_port d.port (d.setup).nodes ≡ true
  pub steps : List (Step A)
  pub said : AllZip AreStep last steps
  pub stand : list_all (λ x. list_any (λ n. n.node == node_of x) (d.setup).nodes) steps ≡ true
  pub early : has_events d.setup ≡ false → last ≡ []
  pub late : has_events d.setup ≡ true → 0 < length last

-- at each stage, what the lines so far say
abbrev pub HasReadAt : (A : Type 0) → Stage → List (List (List ℕ)) → DriveDraft A → Type 0
HasReadAt A Net lines d =
    (lines ≡ []) × IsDraft [] d.setup × (has_events d.setup ≡ false)
HasReadAt A Port lines d =
    (net : List (List ℕ)) × (lines ≡ net ∷ []) × IsDraft (net ∷ []) d.setup × (has_events d.setup ≡ false)
HasReadAt A Body lines d = HasBody A lines d

-- this was read of these lines, and more lines may follow
abbrev pub HasRead : (A : Type 0) → List (List (List ℕ)) → DriveDraft A → Type 0
HasRead A lines d = HasReadAt A d.stage lines d

-- the line was read, after any lines that the draft was read of
abbrev pub Adds : (A : Type 0) → DriveDraft A → List (List ℕ) → DriveDraft A → Type 0
Adds A old line new = (lines : List (List (List ℕ))) → HasRead A lines old → HasRead A (lines ++ line ∷ []) new

-- no drive begins with the lines of the draft and this line
abbrev pub Bars : (A : Type 0) → DriveDraft A → List (List ℕ) → Type 0
Bars A old line =
    (lines : List (List (List ℕ))) → HasRead A lines old → (more : List (List (List ℕ))) (s : Setup A) (port : ℕ)
    (steps : List (Step A)) → ¬ AreDrive (lines ++ line ∷ more) s port steps

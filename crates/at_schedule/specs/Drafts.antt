-- Which schedule lines are, and what was read of some of them.
use Rattle.std.specs.Prelude.{◌≡◌, ◌⊎◌, ◌+◌, ◌-◌, ◌^◌, ◌<◌, min, ℕ, true, false, List, [], ◌∷◌, ◌++◌, length, filter}
use Rattle.std.specs.Prelude.{Option, Some, None}
use Rattle.at_faults.specs.declared.fault.Fault.{Fault}
use Rattle.at_faults.specs.declared.fault.Fault.TheVariants as fault
use Rattle.at_faults.specs.declared.fault.Unreadable.TheVariants.{Changed, Failed, System, TooLong}
use Rattle.at_setup_lines.specs.Drafts.{Draft, IsDraft, has_events}
use Rattle.at_setup_lines.specs.SetupLines.{IsSetup}
use Rattle.at_setup.specs.declared.event.Event.{Event}
use Rattle.at_setup.specs.declared.setup.Setup.{Setup}
use Rattle.at_schedule.specs.Says.{SayAll}
use Rattle.at_schedule.specs.Schedules.{AreInOrder, is_event_line, lines_in, setup_words}

-- the lines say this setup, which is lawful, and after it these events
abbrev pub IsSchedule : {A : Type 0} → List (List ℕ) → Setup A → List (Event A) → Type 0
IsSchedule lines s es = IsSetup (setup_words lines) s × SayAll (filter is_event_line lines) es × AreInOrder lines

-- more lines may follow, so that all of them are a schedule
abbrev pub BeginSchedule : Type 0 → List (List ℕ) → Type 0
BeginSchedule A lines =
    (more : List (List ℕ)) × (s : Setup A) × (es : List (Event A)) × IsSchedule (lines ++ more) s es

-- this was read of these lines: the setup so far, and each event
abbrev pub IsRead : Type 0 → List (List ℕ) → Draft → Type 0
IsRead A lines d =
    IsDraft (setup_words lines) d × ((es : List (Event A)) × SayAll (filter is_event_line lines) es)
    × AreInOrder lines
    × (has_events d ≡ true → 0 < length (filter is_event_line lines))
    × (has_events d ≡ false → filter is_event_line lines ≡ [])

-- what a reader held, if that is known, is the text of a schedule of this setup
abbrev pub HoldsSetup : {A : Type 0} → Option (List ℕ) → Setup A → Type 0
HoldsSetup None s = Unit {0}
HoldsSetup {A} (Some text) s = (es : List (Event A)) × IsSchedule (lines_in text) s es

-- the number of the line after these, counted from 1 and up to the largest of 64 bits
abbrev pub number_after : List (List ℕ) → ℕ
number_after lines = min (length lines + 1) (2 ^ 64 - 1)

-- a schedule begins with the lines before the one of this number, and none begins with that line after them
pub record IsAtFault (A : Type 0) (lines : List (List ℕ)) (number : ℕ) : Type 0 where
  pub before : List (List ℕ)
  pub line : List ℕ
  pub after : List (List ℕ)
  pub parts : lines ≡ before ++ line ∷ after
  pub numbered : number ≡ number_after before
  pub begins : BeginSchedule A before
  pub never : ¬ BeginSchedule A (before ++ line ∷ [])

-- a schedule begins with the lines, which are none yet, and this is the number of the line after the last
pub record IsCutShort (A : Type 0) (lines : List (List ℕ)) (number : ℕ) : Type 0 where
  pub numbered : number ≡ number_after lines
  pub begins : BeginSchedule A lines
  pub never : (s : Setup A) (es : List (Event A)) → ¬ IsSchedule lines s es

-- The line at fault is the first one up to which no schedule begins with the lines, or the one after the last if all
-- lines are no schedule. Neither the length of a text nor a second reading is a fault of its lines.
abbrev pub IsLineFault : Type 0 → Option (List ℕ) → Fault → Type 0
IsLineFault A known (fault.Unreadable TooLong) = ⊥
IsLineFault A known (fault.Unreadable Changed) = ⊥
IsLineFault A known (fault.Unreadable (System code)) = Unit {0}
IsLineFault A known (fault.Unreadable Failed) = Unit {0}
IsLineFault A None (fault.Line number rule) = Unit {0}
IsLineFault A (Some text) (fault.Line number rule) =
    IsAtFault A (lines_in text) number ⊎ IsCutShort A (lines_in text) number
IsLineFault A known fault.NoMemory = Unit {0}

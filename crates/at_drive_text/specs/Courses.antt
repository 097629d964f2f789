-- What a line does to a drive, and how far the drive is after it. S and R say what may come of a send and of a receive
-- on the cable.
use Rattle.std.specs.Prelude.{◌≡◌, ℕ, ◌+◌, ◌||◌, nat_le, Bool, true, false, List, length, Option, Some, Result, IfSome}
use Rattle.std.specs.Prelude.{slice_get}
use Rattle.at_cable.specs.declared.fault.CableFault.{CableFault}
use Rattle.at_setup.specs.declared.setup.Setup.{Setup}
use Rattle.at_words.specs.Words.{words_of}
use Rattle.at_drive.specs.Drives.{Driven as Nodes, Drives, IsLeft, Logged, no_log, with_log}
use Rattle.at_drive.specs.declared.step.Step.{Step}
use Rattle.at_drive_lines.specs.Says.{AreStep, IsStepHere}
use Rattle.at_drive_lines.specs.StepLines.{IsStepOf, IsUnfit, is_step_line}
use Rattle.at_diagnostics.specs.Stops.{IsOfReading}
use Rattle.at_print.specs.Papers.{Page}
use Rattle.at_print.specs.Printers.{HasFailed, Prints}
use Rattle.at_print.specs.declared.printer.Printer.{Printer}
use Rattle.at_diagnostics.specs.declared.diagnostics.Diagnostics.{Diagnostics}
use Rattle.at_drive_text.specs.Driven.{news_text, number_of, sent_count}
use Rattle.at_drive_text.specs.Told.{TellsStep}
use Rattle.at_drive_text.specs.declared.course.Course.{Course}
use Rattle.at_drive_text.specs.declared.ending.Ending.{Ending}
use Rattle.at_drive_text.specs.declared.ending.Ending.TheVariants as ending

-- A drive of a setup before the step at this place, and before which so many datagrams were sent. A call of the cable
-- failed before it, or none did.
abbrev pub IsGoing : {A : Type 0} → Setup A → ℕ → ℕ → Bool → Course A → Type 0
IsGoing setup at n failed course =
    (course.setup.now ≡ setup) × (course.at ≡ at) × (course.number ≡ number_of n) × (course.has_failed ≡ failed)

-- a step was driven, printed and counted, and told what has to be
pub record TellsStepOn {A C W E : Type 0} (S : C → ℕ → ℕ → List ℕ → Result (Unit {0}) CableFault → C → Type 0)
    (R : C → ℕ → ℕ → Result (Option (List ℕ)) CableFault → C → Type 0) (page : W → Page) (heard : E → Page)
    (s : Step A) (o : Course A) (d : Nodes) (c : C) (p : Printer W) (x : Diagnostics E) (o' : Course A) (d' : Nodes)
    (c' : C) (p' : Printer W) (x' : Diagnostics E) : Type 0 where
  pub came : Logged A
  pub drives : Drives S R o.at s (with_log d no_log) c (with_log d' came) c'
  pub printed : Prints page p p' (news_text o.at o.number came)
  pub told : TellsStep heard o.at o.has_failed came x x'
  pub at : o'.at ≡ o.at + 1
  pub number : o'.number ≡ number_of (o.number + sent_count (slice_get came.sent 0))
  pub failed : o'.has_failed ≡ (o.has_failed || nat_le 1 (length came.faults))
  pub setup : o'.setup ≡ o.setup

-- why a drive ended at a step: it was not driven, for want of memory, or a write failed after it
abbrev pub EndsStep : {A C W E : Type 0} → (C → ℕ → ℕ → List ℕ → Result (Unit {0}) CableFault → C → Type 0)
    → (C → ℕ → ℕ → Result (Option (List ℕ)) CableFault → C → Type 0) → (W → Page) → (E → Page)
    → Step A → Course A → Nodes → C → Printer W → Diagnostics E → Course A → Nodes → C → Printer W → Diagnostics E
    → Ending → Type 0
EndsStep S R page heard s o d c p x o' d' c' p' x' (ending.NoMemory at) =
    (at ≡ o.at) × IsLeft R (Some s) c c' × (p' ≡ p) × (x' ≡ x)
EndsStep S R page heard s o d c p x o' d' c' p' x' (ending.Unwritten at) =
    (at ≡ o.at) × TellsStepOn S R page heard s o d c p x o' d' c' p' x' × HasFailed p'
EndsStep S R page heard s o d c p x o' d' c' p' x' (ending.Unread fault) = ⊥

-- a step line says a step, which was driven; any other changes nothing
abbrev pub TellsLine : {A C W E : Type 0} → (C → ℕ → ℕ → List ℕ → Result (Unit {0}) CableFault → C → Type 0)
    → (C → ℕ → ℕ → Result (Option (List ℕ)) CableFault → C → Type 0) → (W → Page) → (E → Page)
    → Bool → List ℕ → Course A → Nodes → C → Printer W → Diagnostics E → Course A → Nodes → C → Printer W
    → Diagnostics E → Type 0
TellsLine {A} S R page heard true line o d c p x o' d' c' p' x' =
    (s : Step A) × AreStep (words_of line) s × IsStepHere (o.setup.now).net s × IsStepOf o.setup.now s
    × TellsStepOn S R page heard s o d c p x o' d' c' p' x'
TellsLine S R page heard false line o d c p x o' d' c' p' x' =
    (o' ≡ o) × (d' ≡ d) × (c' ≡ c) × (p' ≡ p) × (x' ≡ x)

-- Why a drive ended at a line. There was no memory to read its step, or to drive it; a write failed after it; or the
-- line has no place where it is.
abbrev pub EndsLine : {A C W E : Type 0} → (C → ℕ → ℕ → List ℕ → Result (Unit {0}) CableFault → C → Type 0)
    → (C → ℕ → ℕ → Result (Option (List ℕ)) CableFault → C → Type 0) → (W → Page) → (E → Page)
    → List ℕ → Course A → Nodes → C → Printer W → Diagnostics E → Course A → Nodes → C → Printer W → Diagnostics E
    → Ending → Type 0
EndsLine {A} S R page heard line o d c p x o' d' c' p' x' (ending.NoMemory at) =
    (is_step_line line ≡ true) × (at ≡ o.at) × (p' ≡ p) × (x' ≡ x)
    × ((next : Option (Step A)) × IfSome next (λ s. AreStep (words_of line) s) × IsLeft R next c c')
EndsLine S R page heard line o d c p x o' d' c' p' x' (ending.Unwritten at) =
    (is_step_line line ≡ true) × (at ≡ o.at) × TellsLine S R page heard true line o d c p x o' d' c' p' x'
    × HasFailed p'
EndsLine S R page heard line o d c p x o' d' c' p' x' (ending.Unread fault) =
    IsOfReading fault × ((after_step : Bool) × (after_step ≡ true → ¬ (o.at ≡ 0)) × IsUnfit o.setup.now after_step line)
    × (c' ≡ c) × (p' ≡ p) × (x' ≡ x)

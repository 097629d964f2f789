-- What is printed of a drive: of each step what came of it. S and R say what may come of a send and of a receive on the
-- cable.
use Rattle.std.specs.Prelude.{◌≡◌, ◌↔◌, ◌⊎◌, ℕ, ◌+◌, ◌-◌, ◌^◌, ◌<◌, ◌&&◌, ◌||◌, nat_le, min, if◌then◌else◌, Bool, List}
use Rattle.std.specs.Prelude.{[], ◌∷◌, ◌++◌, codes, length, slice_get, Option, Some, None, Result, Ok, Err, IfSome}
use Rattle.std.specs.Prelude.{IsOk, false, true}
use Rattle.std.specs.Fmt.{decimal}
use Rattle.std.specs.List.{All, flat_map}
use Rattle.at_cable.specs.declared.fault.CableFault.{CableFault}
use Rattle.at_ddp.specs.Outbox.{Outbox, Posted}
use Rattle.at_event.specs.declared.Report.{Report}
use Rattle.at_setup.specs.declared.setup.Setup.{Setup}
use Rattle.at_drive.specs.Drives.{Driven as Nodes, Drives, IsLeft, Logged, no_log, opening_nodes_of, with_log}
use Rattle.at_drive.specs.Steps.{has_all}
use Rattle.at_drive.specs.declared.step.Step.{Step}
use Rattle.at_drive_lines.specs.Drafts.{BeginsSo}
use Rattle.at_drive_lines.specs.Says.{IsStepHere}
use Rattle.at_drive_lines.specs.StepLines.{BeginSteps, LineLeft, MoreSteps, NextSays, SaySteps}
use Rattle.at_diagnostics.specs.Diagnostics.{TellsWrites}
use Rattle.at_diagnostics.specs.Stops.{IsOfReading, text_fault_line}
use Rattle.at_diagnostics.specs.declared.diagnostics.Diagnostics.{Diagnostics}
use Rattle.at_drive_text.specs.Told.{TellsEnd, TellsStep}
use Rattle.at_drive_text.specs.declared.ending.Ending.{Ending}
use Rattle.at_drive_text.specs.declared.ending.Ending.TheVariants as ending
use Rattle.at_print.specs.Papers.{Page}
use Rattle.at_print.specs.Printers.{HasFailed, Prints}
use Rattle.at_print.specs.Reports.{datagram_line, event_line}
use Rattle.at_print.specs.declared.printer.Printer.{Printer}
use Rattle.at_print.specs.declared.status.Status.{Status}
use Rattle.at_print.specs.declared.status.Status.TheVariants.{Done}

-- ---- what came of a step

-- the number of a datagram before which so many were sent, up to the largest of 64 bits
abbrev pub number_of : ℕ → ℕ
number_of n = min n (2 ^ 64 - 1)

-- a line for each of these datagrams, before which so many were sent
abbrev pub datagram_lines : ℕ → List Posted → List ℕ
datagram_lines n [] = []
datagram_lines n (p ∷ ps) = datagram_line (number_of n) p.node p.bytes ++ datagram_lines (n + 1) ps

abbrev pub report_part : {A : Type 0} → ℕ → Option (Report A) → List ℕ
report_part at None = []
report_part at (Some r) = event_line at r

abbrev pub sent_part : ℕ → Option Outbox → List ℕ
sent_part n None = []
sent_part n (Some out) = datagram_lines n out.items

-- how many datagrams these are
abbrev pub sent_count : Option Outbox → ℕ
sent_count None = 0
sent_count (Some out) = length out.items

-- the line of a call of the cable that failed, by its step
abbrev pub fault_line : ℕ → List ℕ
fault_line at = decimal at ++ codes " cable\n"

-- nothing waited at a poll, which did not fail
abbrev pub is_idle : {A : Type 0} → Logged A → Bool
is_idle l = nat_le (length l.reports) 0 && nat_le (length l.faults) 0

-- the report, what was sent with it, and each failed call; or that nothing waited
abbrev pub news_text : {A : Type 0} → ℕ → ℕ → Logged A → List ℕ
news_text at n l =
    report_part at (slice_get l.reports 0)
    ++ (sent_part n (slice_get l.sent 0)
    ++ (flat_map fault_line l.faults ++ (if is_idle l then decimal at ++ codes " idle\n" else [])))

-- ---- a whole drive

-- how far a drive is: its nodes, the cable, how many datagrams were sent, whether a call of the cable failed, and what
-- a person was told
pub record Progress (C E : Type 0) : Type 0 where
  pub nodes : Nodes
  pub cable : C
  pub sent : ℕ
  pub has_failed : Bool
  pub told : Diagnostics E

-- before any step
abbrev pub first_progress : {C E : Type 0} → Nodes → C → Diagnostics E → Progress C E
first_progress d c x = record { nodes = d; cable = c; sent = 0; has_failed = false; told = x }

-- after a step of which this came
abbrev pub next_progress : {A C E : Type 0} → Progress C E → Nodes → C → Logged A → Diagnostics E → Progress C E
next_progress p d c l x = record {
  nodes = d;
  cable = c;
  sent = p.sent + sent_count (slice_get l.sent 0);
  has_failed = p.has_failed || nat_le 1 (length l.faults);
  told = x;
}

-- These steps are driven, of which the first is at this number. Of each this is printed, and told what has to be.
abbrev pub Tells : {A C E : Type 0} → (C → ℕ → ℕ → List ℕ → Result (Unit {0}) CableFault → C → Type 0)
    → (C → ℕ → ℕ → Result (Option (List ℕ)) CableFault → C → Type 0) → (E → Page) → ℕ → List (Step A) → Progress C E
    → Progress C E → List ℕ → Type 0
Tells S R heard at [] p p' text = (p' ≡ p) × (text ≡ [])
Tells {A} {C} {E} S R heard at (s ∷ ss) p p' text =
    (mid : Nodes) × (l : Logged A) × (between : C) × (x : Diagnostics E) × (rest : List ℕ)
    × Drives S R at s (with_log p.nodes no_log) p.cable (with_log mid l) between
    × TellsStep heard at p.has_failed l p.told x
    × Tells S R heard (at + 1) ss (next_progress p mid between l x) p' rest
    × (text ≡ news_text at p.sent l ++ rest)

-- The drive found no memory before the step at this place, or for it. That is the first step, or one that a line says,
-- or a line that is left could not be read. A step that was not driven leaves the cable as it was, but at a poll.
pub record LacksMemory {A C : Type 0} (R : C → ℕ → ℕ → Result (Option (List ℕ)) CableFault → C → Type 0)
    (known : Option (List (List ℕ))) (may_fail : Bool) (steps : List (Step A)) (at : ℕ) (c c' : C) : Type 0 where
  pub counted : at ≡ length steps
  pub begin : IfSome known (λ lines. BeginSteps lines steps)
  pub there : (steps ≡ []) ⊎ IfSome known
      (λ lines. MoreSteps lines steps ⊎ ((may_fail ≡ true) × LineLeft lines steps))
  pub next : Option (Step A)
  pub says : IfSome next (λ s. IfSome known (λ lines. NextSays lines steps s))
  pub left : IsLeft R next c c'

-- All steps that the lines say were driven, and this is printed of them. Or a write failed at a step, which is the last
-- one then. Or there was no memory for a step. Or a line could not be read, or says no step any more.
abbrev pub TellsDrive : {A C E : Type 0} → (C → ℕ → ℕ → List ℕ → Result (Unit {0}) CableFault → C → Type 0)
    → (C → ℕ → ℕ → Result (Option (List ℕ)) CableFault → C → Type 0) → (E → Page) → Option (List (List ℕ)) → Bool
    → List (Step A) → Progress C E → Progress C E → C → Result (Unit {0}) Ending → List ℕ → Type 0
TellsDrive S R heard known may_fail steps p p' c' (Ok u) text =
    Tells S R heard 0 steps p p' text × (c' ≡ p'.cable) × IfSome known (λ lines. SaySteps lines steps)
TellsDrive S R heard known may_fail steps p p' c' (Err (ending.Unwritten at)) text =
    Tells S R heard 0 steps p p' text × (c' ≡ p'.cable) × (at + 1 ≡ length steps)
    × IfSome known (λ lines. BeginSteps lines steps)
TellsDrive S R heard known may_fail steps p p' c' (Err (ending.NoMemory at)) text =
    Tells S R heard 0 steps p p' text × LacksMemory R known may_fail steps at p'.cable c'
TellsDrive S R heard known may_fail steps p p' c' (Err (ending.Unread fault)) text =
    Tells S R heard 0 steps p p' text × (c' ≡ p'.cable) × IsOfReading fault × (may_fail ≡ true)
    × IfSome known (λ lines. BeginSteps lines steps)

-- From this place on, steps of the setup's nodes and on its network were driven, and this was printed of them.
pub record Goes {A C W E : Type 0} (S : C → ℕ → ℕ → List ℕ → Result (Unit {0}) CableFault → C → Type 0)
    (R : C → ℕ → ℕ → Result (Option (List ℕ)) CableFault → C → Type 0) (page : W → Page) (heard : E → Page)
    (setup : Setup A) (known : Option (List (List ℕ))) (may_fail : Bool) (p : Progress C E) (old : Printer W) (c' : C)
    (new : Printer W) (after : Diagnostics E) (result : Result (Unit {0}) Ending) : Type 0 where
  pub steps : List (Step A)
  pub text : List ℕ
  pub progress : Progress C E
  pub tells : TellsDrive S R heard known may_fail steps p progress c' result text
  pub told : after ≡ progress.told
  pub stand : has_all setup steps ≡ true
  pub here : All (IsStepHere setup.net) steps
  pub printed : Prints page old new text

-- the lines were read before, and may be others now only if reading them may fail
abbrev pub WasRead : {A : Type 0} → Setup A → Option (List (List ℕ)) → Bool → Type 0
WasRead setup known may_fail =
    may_fail ≡ false → (lines : List (List ℕ)) × (port : ℕ) × (known ≡ Some lines) × BeginsSo setup port lines

-- the line of the step at which memory ran out, or that a line could not be read
abbrev pub drive_end : Result (Unit {0}) Ending → List ℕ
drive_end (Ok u) = []
drive_end (Err (ending.Unwritten at)) = []
drive_end (Err (ending.NoMemory at)) = codes "stopped nomemory at " ++ (decimal at ++ codes "\n")
drive_end (Err (ending.Unread fault)) = text_fault_line fault

-- the drive ended since a write failed
abbrev pub IsUnwritten : Result (Unit {0}) Ending → Type 0
IsUnwritten (Err (ending.Unwritten at)) = Unit {0}
IsUnwritten other = ⊥

-- one of these lines could not be read before the step at this place
abbrev pub IsUnread : Option (List (List ℕ)) → ℕ → Ending → Type 0
IsUnread known at (ending.NoMemory place) = (place ≡ at) × IfSome known (λ lines. 0 < length lines)
IsUnread known at (ending.Unwritten place) = ⊥
IsUnread known at (ending.Unread fault) = IsOfReading fault

-- How a drive ended, and what is printed of it. A person is told of the steps, then why it ended, then that something
-- could not be written, and nothing else.
pub record Driven {A C W E : Type 0} (S : C → ℕ → ℕ → List ℕ → Result (Unit {0}) CableFault → C → Type 0)
    (R : C → ℕ → ℕ → Result (Option (List ℕ)) CableFault → C → Type 0) (setup : Setup A)
    (known : Option (List (List ℕ))) (may_fail : Bool) (c c' : C) (page : W → Page) (heard : E → Page)
    (status : Status) (old new : Printer W) (before after : Diagnostics E) : Type 0 where
  pub result : Result (Unit {0}) Ending
  pub steps : List (Step A)
  pub text : List ℕ
  pub progress : Progress C E
  pub tells : TellsDrive S R heard known may_fail steps (first_progress
      (opening_nodes_of setup) c before) progress c' result
      text
  pub late : Diagnostics E
  pub ended : TellsEnd heard result progress.told late
  pub last : TellsWrites heard new late after
  pub stand : has_all setup steps ≡ true
  pub here : All (IsStepHere setup.net) steps
  pub done : (status ≡ Done) ↔ (IsOk result × ¬ HasFailed new)
  pub printed : Prints page old new (text ++ drive_end result)
  pub unwritten : IsUnwritten result → HasFailed new

-- How a play ends, and all that is printed of it.
use Rattle.std.specs.Prelude.{◌≡◌, ◌↔◌, ◌⊎◌, ◌<◌, ◌≤◌, ℕ, Bool, List, [], ◌++◌, length, Option, Result, Ok, Err}
use Rattle.std.specs.Prelude.{IfSome, IsOk, codes, false, true}
use Rattle.std.specs.declared.io.Error.{Error}
use Rattle.at_opened.specs.Rewinds.{Rewound}
use Rattle.at_world.specs.Agreements.{HasAgreeingRun}
use Rattle.at_world.specs.Events.{NoForge}
use Rattle.at_world.specs.ExactlyOnce.{RunsOnceIn}
use Rattle.at_world.specs.Machine.{Machine, Run, opening_machine}
use Rattle.at_world.specs.Plays.{opening_world}
use Rattle.at_world.specs.Safety.{Safely}
use Rattle.at_setup.specs.Setups.{is_lawful}
use Rattle.at_setup.specs.declared.setup.Setup.{Setup}
use Rattle.at_schedule.specs.Drafts.{HoldsSetup, IsLineFault}
use Rattle.at_faults.specs.Reads.{IsOfBytes}
use Rattle.at_print.specs.Papers.{Page}
use Rattle.at_print.specs.Printers.{HasFailed, Prints}
use Rattle.at_diagnostics.specs.Diagnostics.{TellsStop, TellsWrites}
use Rattle.at_diagnostics.specs.Stops.{stop_line, stop_of}
use Rattle.at_diagnostics.specs.declared.diagnostics.Diagnostics.{Diagnostics}
use Rattle.at_faults.specs.declared.fault.Unreadable.{Unreadable}
use Rattle.at_faults.specs.declared.fault.Fault.TheVariants as why
use Rattle.at_play.specs.Told.{IsWhole, Played, TellsReports}
use Rattle.at_print.specs.declared.printer.Printer.{Printer}
use Rattle.at_print.specs.declared.status.Status.{Status}
use Rattle.at_print.specs.declared.status.Status.TheVariants.{Done, Failed}
use Rattle.at_faults.specs.declared.fault.Fault.{Fault}
use Rattle.at_play.specs.declared.ending.Ending.{Ending}
use Rattle.at_play.specs.declared.ending.Ending.TheVariants as ending
use Rattle.at_diagnostics.specs.declared.stop.Stop.TheVariants as stop

-- why a play ended, if it did so before its last event
abbrev pub end_text : Result (Unit {0}) Ending → List ℕ
end_text (Ok u) = []
end_text (Err (ending.Stopped s)) = stop_line s
end_text (Err ending.Unwritten) = []

-- what a person is told of that
abbrev pub TellsEnd : {W : Type 0} → (W → Page) → Result (Unit {0}) Ending → Diagnostics W → Diagnostics W → Type 0
TellsEnd page (Ok u) old new = new ≡ old
TellsEnd page (Err (ending.Stopped s)) old new = TellsStop page s old new
TellsEnd page (Err ending.Unwritten) old new = new ≡ old

-- a write failed
abbrev pub IsUnwritten : Result (Unit {0}) Ending → Type 0
IsUnwritten (Err ending.Unwritten) = Unit {0}
IsUnwritten other = ⊥

-- The setup is lawful, and each event was safe. If nothing was forged, the reports are a run of the machine, one that
-- agrees with the worlds throughout, and exactly-once requests run once.
pub record Obeys {A : Type 0} (setup : Setup A) (p : Played setup) : Type 0 where
  pub lawful : is_lawful setup ≡ true
  pub safe : Safely (opening_world setup) p.events p.reports p.world
  pub run : NoForge p.events → (m : Machine) × Run (opening_machine setup) p.events p.reports m
  pub agrees : NoForge p.events → HasAgreeingRun setup p.events p.reports p.world
  pub once : RunsOnceIn setup p.events p.reports (p.world).sent

-- what may be said of events: what a person was told before and after, how their play ended, and what it printed
abbrev pub Telling : Type 0 → Type 1
Telling E = Diagnostics E → Diagnostics E → Result (Unit {0}) Ending → List ℕ → Type 0

-- the same of the events of a schedule: what is known of its text, whether reading may fail, and what its setup is
abbrev pub Account : Type 0 → Type 0 → Type 1
Account A E = Option (List ℕ) → Bool → (Setup A → Type 0) → Telling E

-- What a schedule's play prints of its events: what is told of those that were played. These are all of them unless it
-- stopped, which is said if the schedule's text is known. To a person their refusals are told.
abbrev pub PlaysText : (A : Type 0) {E : Type 0} → (E → Page) → Account A E
PlaysText A heard known may_fail IsRead old new result text =
    (setup : Setup A) × IsRead setup × (p : Played setup) × Obeys setup p × (text ≡ p.text)
    × IsWhole A known may_fail result p × TellsReports heard 0 p.reports old new

-- no event was played, and nothing is told of any, since there is no schedule for such a reason
abbrev pub IsNotRead : {E : Type 0} → (Fault → Type 0) → Telling E
IsNotRead IsReason old new (Ok u) text = ⊥
IsNotRead IsReason old new (Err e) text =
    ((f : Fault) × IsReason f × (e ≡ ending.Stopped (stop_of f))) × (text ≡ []) × (new ≡ old)

-- why there is no schedule: the bytes could not be read, or a line is at fault
abbrev pub IsTextFault : Type 0 → Option (List ℕ) → Fault → Type 0
IsTextFault A known f = IsOfBytes f ⊎ IsLineFault A known f

-- the bytes of a schedule could not be read, or are too many, before any event
abbrev pub IsUnreadable : Ending → Type 0
IsUnreadable e = (f : Fault) × IsOfBytes f × (e ≡ ending.Stopped (stop_of f))

-- no event was played, and what is printed is why
abbrev pub IsUnplayed : {W : Type 0} → (W → Page) → Status → Printer W → Printer W → Type 0
IsUnplayed page status old new =
    (status ≡ Failed) × ((f : Fault) × IsOfBytes f × Prints page old new (stop_line (stop_of f)))

-- the same of a file, of which nothing but this is printed
abbrev pub IsRejected : {W : Type 0} → (W → Page) → Status → Printer W → Printer W → Type 0
IsRejected page status old new = (status ≡ Failed) × Prints page old new (codes "fault 0\n")

-- a file was too long or could not be read to its end, before any event
abbrev pub IsTooLong : Ending → Type 0
IsTooLong e = (u : Unreadable) × (e ≡ ending.Stopped (stop.Text (why.Unreadable u)))

-- Nothing if there is no schedule, and else T of the setup that the text says. The text is read to its end before the
-- first event, so that no reading fails later. Here and below, T is what is said of a schedule that was read.
abbrev pub PlayText : (A : Type 0) {E : Type 0} → Account A E → Option (List ℕ) → Telling E
PlayText A T known old new result text =
    IsNotRead (IsTextFault A known) old new result text ⊎ T known false (HoldsSetup known) old new result text

-- how many bytes a schedule has at most
abbrev pub longest : ℕ
longest = 67108864

-- how many bytes a file has at most that is held after it was read once
abbrev pub small : ℕ
small = 524288

-- The same of a file that is read from its beginning on, and again. The setup is what the text said the first time, and
-- the events are what it said the second time. B says what may come of sending the file back.
abbrev pub ReadTwice : (A : Type 0) {F E : Type 0} → Account A E → (F → Option (List ℕ))
    → (F → Result (Unit {0}) Error → F → Type 0) → Telling E
ReadTwice A T remaining B old new result text =
    IsNotRead IsOfBytes old new result text
    ⊎ ((first : Rewound B) × (IsNotRead (IsTextFault A (remaining first.file)) old new result text
    ⊎ ((again : Rewound B) × T (remaining again.file) true (HoldsSetup (remaining first.file)) old new result text)))

-- A small file is played as the text that it has after it was sent back: no reading fails after its first event. Only a
-- larger one is read twice. Which one it is, is said if it is known what the file holds.
abbrev pub FileText : (A : Type 0) {F E : Type 0} → Account A E → (F → Option (List ℕ))
    → (F → Result (Unit {0}) Error → F → Type 0) → Telling E
FileText A T remaining B old new result text =
    IsNotRead IsOfBytes old new result text
    ⊎ ((held : Rewound B)
    × ((IfSome (remaining held.file) (λ all. length all ≤ small)
    × PlayText A T (remaining held.file) old new result text)
    ⊎ (IfSome (remaining held.file) (λ all. small < length all)
    × ReadTwice A T remaining B old new result text)))

-- How a play ended, and what is printed of it: its events, and why it stopped if it did. A person is told of the
-- events, then why it stopped, then that something could not be written, and nothing else.
pub record Ended {W E : Type 0} (IsText : Diagnostics E → Result (Unit {0}) Ending → List ℕ → Type 0)
    (page : W → Page) (heard : E → Page) (status : Status) (old new : Printer W) (after : Diagnostics E)
    : Type 0 where
  pub result : Result (Unit {0}) Ending
  pub text : List ℕ
  pub mid : Diagnostics E
  pub plays : IsText mid result text
  pub done : (status ≡ Done) ↔ (IsOk result × ¬ HasFailed new)
  pub printed : Prints page old new (text ++ end_text result)
  pub unwritten : IsUnwritten result → HasFailed new
  pub late : Diagnostics E
  pub stopped : TellsEnd heard result mid late
  pub last : TellsWrites heard new late after

-- what may be said of a whole play: the papers of both, its status, and what was printed and told before and after
abbrev pub Playing : Type 0 → Type 0 → Type 1
Playing W E = (W → Page) → (E → Page) → Status → Printer W → Printer W → Diagnostics E → Diagnostics E → Type 0

-- A stream is played as the text that it holds, if it is known what that is. One that is too long is not played.
abbrev pub PlaysStream : (A : Type 0) {W E : Type 0} → Account A E → Option (List ℕ) → Playing W E
PlaysStream A T known page heard status old new before after =
    IfSome known (λ all. longest < length all → IsUnplayed page status old new)
    × Ended (PlayText A T known before) page heard status old new after

-- a file is played so, and not if it is too long
abbrev pub PlaysFile : (A : Type 0) {F W E : Type 0} → Account A E → (F → Option (List ℕ))
    → (F → Result (Unit {0}) Error → F → Type 0) → F → Playing W E
PlaysFile A T remaining B file page heard status old new before after =
    IfSome (remaining file) (λ all. longest < length all → IsRejected page status old new)
    × Ended (FileText A T remaining B before) page heard status old new after

-- what was sent back is a file if it went, and a stream of what is left of it if not
abbrev pub PlaysSentBack : (A : Type 0) {F W E : Type 0} → Account A E → (F → Option (List ℕ))
    → (F → Result (Unit {0}) Error → F → Type 0) → Result (Unit {0}) Error → F → Playing W E
PlaysSentBack A T remaining B (Ok u) file page heard status old new before after =
    PlaysFile A T remaining B file page heard status old new before after
PlaysSentBack A T remaining B (Err why) file page heard status old new before after =
    PlaysStream A T (remaining file) page heard status old new before after

-- What was opened is sent back to its beginning first. What came of that decides how it is played.
abbrev pub PlaysOpened : (A : Type 0) {F W E : Type 0} → Account A E → (F → Option (List ℕ))
    → (F → Result (Unit {0}) Error → F → Type 0) → F → Playing W E
PlaysOpened A {F} T remaining B file page heard status old new before after =
    (answer : Result (Unit {0}) Error) × (asked : F) × B file answer asked
    × PlaysSentBack A T remaining B answer asked page heard status old new before after

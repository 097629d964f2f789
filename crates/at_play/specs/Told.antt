-- What is printed of a play: each event that was played, in its order.
use Rattle.std.specs.Prelude.{◌≡◌, ◌⊎◌, ℕ, ◌+◌, ◌<◌, Bool, true, false, List, [], ◌∷◌, ◌++◌, filter, length, IfSome}
use Rattle.std.specs.Prelude.{Option, Result, Ok, Err}
use Rattle.std.specs.List.{All}
use Rattle.at_event.specs.declared.Report.{Report}
use Rattle.at_faults.specs.Reads.{IsOfSystem}
use Rattle.at_faults.specs.declared.fault.Fault.{Fault as TextFault}
use Rattle.at_faults.specs.declared.fault.Fault.TheVariants as why
use Rattle.at_faults.specs.declared.fault.Unreadable.TheVariants.{Changed}
use Rattle.at_setup.specs.declared.event.Event.{Event}
use Rattle.at_setup.specs.declared.refusal.EventFault.{EventFault}
use Rattle.at_setup.specs.declared.refusal.EventFault.TheVariants as world
use Rattle.at_setup.specs.declared.setup.Setup.{Setup}
use Rattle.at_setup_lines.specs.Drafts.{Draft}
use Rattle.at_world.specs.Plays.{opening_world}
use Rattle.at_world.specs.Safety.{IsSafe}
use Rattle.at_world.specs.Worlds.{WorldState, IsPlayable, IsFault, Plays, Refuses}
use Rattle.at_print.specs.Papers.{Page}
use Rattle.at_print.specs.Printers.{Prints}
use Rattle.at_diagnostics.specs.Diagnostics.{TellsReport}
use Rattle.at_diagnostics.specs.declared.diagnostics.Diagnostics.{Diagnostics}
use Rattle.at_play.specs.Sent.{event_text}
use Rattle.at_schedule.specs.Drafts.{BeginSchedule, IsRead}
use Rattle.at_schedule.specs.Says.{IsEventHere, SayAll, Says}
use Rattle.at_schedule.specs.Schedules.{IsKept, event_lines, is_event_line, lines_in}
use Rattle.at_print.specs.declared.printer.Printer.{Printer}
use Rattle.at_play.specs.declared.ending.Ending.{Ending}
use Rattle.at_play.specs.declared.ending.Ending.TheVariants as ending
use Rattle.at_diagnostics.specs.declared.stop.Stop.{Stop}
use Rattle.at_diagnostics.specs.declared.stop.Stop.TheVariants as stop

-- From the first world these events, none of them refused, give these reports and the last world, and each is safe.
-- This is printed of them.
abbrev pub Told : {A : Type 0} → WorldState → List (Event A) → List (Report A) → WorldState → List ℕ → Type 0
Told w [] [] w' text = (w' ≡ w) × (text ≡ [])
Told w (e ∷ es) (r ∷ rs) w' text =
    (mid : WorldState) × (rest : List ℕ) × IsPlayable w e × Plays w e r mid × IsSafe w e r mid × Told mid es rs w' rest
    × (text ≡ event_text w.events r mid.sent (length w.sent) ++ rest)
Told w [] (r ∷ rs) w' text = ⊥
Told w (e ∷ es) [] w' text = ⊥

-- What a person is told of these reports, of which the first is of the event at this place: a line of each refusal by a
-- number that was not told before, in their order, and no other line. Each event is in a line of some number.
abbrev pub TellsReports : {A E : Type 0} → (E → Page) → ℕ → List (Report A) → Diagnostics E → Diagnostics E → Type 0
TellsReports heard at [] old new = new ≡ old
TellsReports {E = E} heard at (r ∷ rs) old new =
    (mid : Diagnostics E) × (line : ℕ) × TellsReport heard r at line old mid × TellsReports heard (at + 1) rs mid new

-- an event in this line was played, its text is printed, and of its report is told what has to be
pub record Tells {A W E : Type 0} (page : W → Page) (heard : E → Page) (line : ℕ) (w : WorldState) (e : Event A)
    (w' : WorldState) (old new : Printer W) (before after : Diagnostics E) : Type 0 where
  pub report : Report A
  pub playable : IsPlayable w e
  pub plays : Plays w e report w'
  pub safe : IsSafe w e report w'
  pub printed : Prints page old new (event_text w.events report w'.sent (length w.sent))
  pub told : TellsReport heard report w.events line before after

-- A line that is no event changes nothing. The event that any other says is played and printed, and a requester that
-- it names is on this network.
abbrev pub TellsLine : (A : Type 0) {W E : Type 0} → (W → Page) → (E → Page) → ℕ → ℕ → Bool → List ℕ → WorldState
    → WorldState → Printer W → Printer W → Diagnostics E → Diagnostics E → Type 0
TellsLine A page heard net number true line w w' old new before after =
    (e : Event A) × Says line e × IsEventHere net e × Tells page heard number w e w' old new before after
TellsLine A page heard net number false line w w' old new before after =
    (w' ≡ w) × (new ≡ old) × (after ≡ before)

-- an event was not played, and this is why
pub record IsStopped {A : Type 0} (w : WorldState) (e : Event A) (w' : WorldState) (s : Stop) : Type 0 where
  pub fault : EventFault
  pub line : ℕ
  pub datagram : Option ℕ
  pub says : s ≡ stop.Event fault w.events line datagram
  pub faulty : IsFault w e fault w'

-- Events that were played in their order from the opening world on, one report each, and what is printed of them. The
-- requesters that they name are on the setup's network.
pub record Played {A : Type 0} (setup : Setup A) : Type 0 where
  pub events : List (Event A)
  pub reports : List (Report A)
  pub world : WorldState
  pub text : List ℕ
  pub told : Told (opening_world setup) events reports world text
  pub here : All (IsEventHere setup.net) events

-- the first event lines of a schedule say these events
abbrev pub BeginsWith : {A : Type 0} → List ℕ → List (Event A) → Type 0
BeginsWith text es = (said later : List (List ℕ)) × (event_lines text ≡ said ++ later) × SayAll said es

-- and the next event line says this event
abbrev pub NextSays : {A : Type 0} → List ℕ → List (Event A) → Event A → Type 0
NextSays text es e =
    (said later : List (List ℕ)) × (line : List ℕ) × (event_lines text ≡ said ++ line ∷ later) × SayAll said es
    × Says line e

-- the next event line takes memory to be read, or says an event that can be played in this world
abbrev pub NextTakesMemory : {A : Type 0} → List ℕ → List (Event A) → WorldState → Type 0
NextTakesMemory {A} text es w =
    (said later : List (List ℕ)) × (line : List ℕ) × (event_lines text ≡ said ++ line ∷ later) × SayAll said es
    × (IsKept line ⊎ ((e : Event A) × Says line e × IsPlayable w e))

-- after lines that say these events another line is left
abbrev pub LineLeft : {A : Type 0} → List ℕ → List (Event A) → Type 0
LineLeft text es =
    (read later : List (List ℕ)) × (line : List ℕ) × (lines_in text ≡ read ++ line ∷ later)
    × SayAll (filter is_event_line read) es

-- and no schedule begins with those lines and this one
abbrev pub BreaksOff : (A : Type 0) → List ℕ → List (Event A) → Type 0
BreaksOff A text es =
    (read later : List (List ℕ)) × (line : List ℕ) × (lines_in text ≡ read ++ line ∷ later)
    × SayAll (filter is_event_line read) es × ¬ BeginSchedule A (read ++ line ∷ [])

-- Where memory may run out after these events: in a text in memory where the next event line takes some, and where
-- reading may fail wherever a line is left.
abbrev pub TakesMemory : {A : Type 0} → Bool → List ℕ → List (Event A) → WorldState → Type 0
TakesMemory true text es w = LineLeft text es
TakesMemory false text es w = NextTakesMemory text es w

-- a read failed
abbrev pub IsFailedRead : TextFault → Type 0
IsFailedRead (why.Unreadable u) = IsOfSystem u
IsFailedRead (why.Line number rule) = ⊥
IsFailedRead why.NoMemory = ⊥

-- A text in which reading may fail could not be read on after these events: a read failed, or a line is no longer one
-- of a schedule.
abbrev pub FailsAfter : (A : Type 0) → Option (List ℕ) → Bool → List (Event A) → TextFault → Type 0
FailsAfter A known may_fail es f =
    (may_fail ≡ true)
    × (IsFailedRead f ⊎ ((f ≡ why.Unreadable Changed) × IfSome known (λ text. BreaksOff A text es)))

-- Why a play stopped in a world, after these events. The text could not be read on. Or memory ran out, before the first
-- event or where some is taken. Or the event of the next event line is refused so.
abbrev pub StopsIn : (A : Type 0) → Option (List ℕ) → Bool → List (Event A) → WorldState → Stop → Type 0
StopsIn A known may_fail es w (stop.Text f) = FailsAfter A known may_fail es f
StopsIn A known may_fail es w (stop.Event world.NoMemory at line datagram) =
    (at ≡ w.events) × ((es ≡ []) ⊎ IfSome known (λ text. TakesMemory may_fail text es w))
StopsIn A known may_fail es w (stop.Event (world.Refused r) at line datagram) =
    (at ≡ w.events) × ((e : Event A) × Refuses w e r × IfSome known (λ text. NextSays text es e))

-- Why a play stops at one line, before which this was read. No schedule begins with the lines up to it. Or memory ran
-- out, as it is read or as its event is played. Or its event is refused so.
abbrev pub StopsLine : (A : Type 0) → Draft → List ℕ → WorldState → Stop → Type 0
StopsLine A d line w (stop.Text f) =
    (f ≡ why.Unreadable Changed)
    × ((lines : List (List ℕ)) → IsRead A lines d → ¬ BeginSchedule A (lines ++ line ∷ []))
StopsLine A d line w (stop.Event world.NoMemory at number datagram) =
    (at ≡ w.events)
    × (IsKept line
    ⊎ ((is_event_line line ≡ true) × ((e : Event A) × Says line e × (w.failed ≡ false → IsPlayable w e))))
StopsLine A d line w (stop.Event (world.Refused r) at number datagram) =
    (at ≡ w.events) × (is_event_line line ≡ true) × ((e : Event A) × Refuses w e r × Says line e)

-- the next of the bytes that are left could not be read before the event of this place
abbrev pub IsUnreadIn : Option (List ℕ) → ℕ → Stop → Type 0
IsUnreadIn known at (stop.Text f) = IsFailedRead f
IsUnreadIn known at (stop.Event world.NoMemory n line datagram) = (n ≡ at) × IfSome known (λ text. 0 < length text)
IsUnreadIn known at (stop.Event (world.Refused r) n line datagram) = ⊥

-- The events are what the event lines say, if the schedule's text is known: what all of them say, or the first ones if
-- the play stopped, or a write failed. It stops only for such a reason.
abbrev pub EndsAfter : {A : Type 0} → (Stop → Type 0) → Option (List ℕ) → Result (Unit {0}) Ending → List (Event A)
    → Type 0
EndsAfter IsReason known (Ok u) es = IfSome known (λ text. SayAll (event_lines text) es)
EndsAfter IsReason known (Err (ending.Stopped s)) es = IsReason s × IfSome known (λ text. BeginsWith text es)
EndsAfter IsReason known (Err ending.Unwritten) es = IfSome known (λ text. BeginsWith text es)

-- so it is of events that were played, and the play stops for a reason of the world in which it does
abbrev pub IsWhole : (A : Type 0) {setup : Setup A} → Option (List ℕ) → Bool → Result (Unit {0}) Ending → Played setup
    → Type 0
IsWhole A known may_fail result p =
    EndsAfter (StopsIn A known may_fail p.events p.world) known result p.events

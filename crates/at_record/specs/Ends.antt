-- What is recorded of a schedule, and how that ends.
use Rattle.std.specs.Prelude.{◌≡◌, ◌↔◌, ◌⊎◌, ℕ, false, List, [], Option, Result, Ok, Err, IfSome, IsOk}
use Rattle.at_diagnostics.specs.Diagnostics.{TellsStop, TellsWrites}
use Rattle.at_diagnostics.specs.Stops.{stop_of}
use Rattle.at_diagnostics.specs.declared.diagnostics.Diagnostics.{Diagnostics}
use Rattle.at_diagnostics.specs.declared.stop.Stop.{Stop}
use Rattle.at_faults.specs.declared.fault.Fault.{Fault}
use Rattle.at_play.specs.Ends.{IsTextFault, Obeys}
use Rattle.at_play.specs.Told.{BeginsWith, Played, StopsIn, TellsReports}
use Rattle.at_print.specs.Papers.{Page}
use Rattle.at_print.specs.Printers.{HasFailed, Prints}
use Rattle.at_print.specs.declared.printer.Printer.{Printer}
use Rattle.at_print.specs.declared.status.Status.{Status}
use Rattle.at_print.specs.declared.status.Status.TheVariants.{Done}
use Rattle.at_record.specs.Recordings.{AreSendings, sendings}
use Rattle.at_recording.specs.Recordings.{recording}
use Rattle.at_schedule.specs.Drafts.{HoldsSetup}
use Rattle.at_schedule.specs.Says.{SayAll}
use Rattle.at_schedule.specs.Schedules.{event_lines}
use Rattle.at_setup.specs.declared.setup.Setup.{Setup}
use Rattle.at_world.specs.Sents.{SentDatagram}

-- The events are what all event lines say, or what the first of them say, up to where the play stopped for this reason.
-- They are said if the schedule's text is known.
abbrev pub SaysEvents : (A : Type 0) {setup : Setup A} → Option (List ℕ) → Result (Unit {0}) Stop → Played setup
    → Type 0
SaysEvents A known (Ok u) p = IfSome known (λ text. SayAll (event_lines text) p.events)
SaysEvents A known (Err s) p =
    StopsIn A known false p.events p.world s × IfSome known (λ text. BeginsWith text p.events)

-- Events were played as `play` plays them, and a person is told of their refusals. This is all that they sent.
pub record PlaysEvents (A : Type 0) {E : Type 0} (heard : E → Page) (known : Option (List ℕ)) (setup : Setup A)
    (result : Result (Unit {0}) Stop) (sent : List SentDatagram) (old new : Diagnostics E) : Type 0 where
  pub played : Played setup
  pub sends : sent ≡ (played.world).sent
  pub whole : SaysEvents A known result played
  pub tells : TellsReports heard 0 played.reports old new

-- The same of the setup that the schedule says: all that `play` promises of these events.
pub record PlaysSchedule (A : Type 0) {E : Type 0} (heard : E → Page) (known : Option (List ℕ))
    (result : Result (Unit {0}) Stop) (sent : List SentDatagram) (old new : Diagnostics E) : Type 0 where
  pub setup : Setup A
  pub held : HoldsSetup known setup
  pub events : PlaysEvents A heard known setup result sent old new
  pub obeys : Obeys setup events.played
  pub ranges : AreSendings sent

-- there is no schedule for this reason: its bytes could not be read, or a line is at fault
abbrev pub IsUnread : Type 0 → Option (List ℕ) → Result (Unit {0}) Stop → Type 0
IsUnread A known (Ok u) = ⊥
IsUnread A known (Err s) = (f : Fault) × IsTextFault A known f × (s ≡ stop_of f)

-- there is no schedule, nothing was sent and nothing told; or it was played
abbrev pub PlaysText : (A : Type 0) {E : Type 0} → (E → Page) → Option (List ℕ) → Result (Unit {0}) Stop
    → List SentDatagram → Diagnostics E → Diagnostics E → Type 0
PlaysText A heard known result sent old new =
    (IsUnread A known result × (sent ≡ []) × (new ≡ old)) ⊎ PlaysSchedule A heard known result sent old new

-- what a person is told of why a play ended before its last event, if it did
abbrev pub TellsEnd : {E : Type 0} → (E → Page) → Result (Unit {0}) Stop → Diagnostics E → Diagnostics E → Type 0
TellsEnd heard (Ok u) old new = new ≡ old
TellsEnd heard (Err s) old new = TellsStop heard s old new

-- What is recorded of a schedule: a capture of all that its events sent, whole also where the play stopped. A person is
-- told of the refusals, then why it stopped, then that something could not be written, and nothing else.
pub record Recorded (A : Type 0) {W E : Type 0} (page : W → Page) (heard : E → Page) (known : Option (List ℕ))
    (status : Status) (old new : Printer W) (before after : Diagnostics E) : Type 0 where
  pub result : Result (Unit {0}) Stop
  pub sent : List SentDatagram
  pub mid : Diagnostics E
  pub plays : PlaysText A heard known result sent before mid
  pub printed : Prints page old new (recording (sendings sent))
  pub done : (status ≡ Done) ↔ (IsOk result × ¬ HasFailed new)
  pub late : Diagnostics E
  pub stopped : TellsEnd heard result mid late
  pub last : TellsWrites heard new late after

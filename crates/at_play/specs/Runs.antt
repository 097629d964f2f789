-- What is printed of a play, for a reader who knows the plain machine and not the node's own step.
use Rattle.std.specs.Prelude.{◌≡◌, ℕ, ◌+◌, Bool, true, List, [], ◌∷◌, ◌++◌, length, Option, Result}
use Rattle.std.specs.List.{All}
use Rattle.at_diagnostics.specs.declared.diagnostics.Diagnostics.{Diagnostics}
use Rattle.at_diagnostics.specs.declared.stop.Stop.{Stop}
use Rattle.at_diagnostics.specs.declared.stop.Stop.TheVariants as stop
use Rattle.at_event.specs.declared.Report.{Report}
use Rattle.at_play.specs.Sent.{sent_lines}
use Rattle.at_play.specs.Told.{EndsAfter, FailsAfter, TellsReports}
use Rattle.at_play.specs.declared.ending.Ending.{Ending}
use Rattle.at_print.specs.Papers.{Page}
use Rattle.at_print.specs.Reports.{event_line}
use Rattle.at_schedule.specs.Says.{IsEventHere}
use Rattle.at_setup.specs.Setups.{is_lawful}
use Rattle.at_setup.specs.declared.event.Event.{Event}
use Rattle.at_setup.specs.declared.setup.Setup.{Setup}
use Rattle.at_world.specs.Events.{NoForge}
use Rattle.at_world.specs.Machine.{Machine, Run, opening_machine}
use Rattle.at_world.specs.Sents.{SentDatagram}

-- The text has a line for each of these reports, in their order. They are those of the events from this place on. After
-- the line of a report come those of some datagrams, which are numbered on from this number without a gap.
abbrev pub PrintsReports : {A : Type 0} → ℕ → ℕ → List (Report A) → List ℕ → Type 0
PrintsReports at number [] text = text ≡ []
PrintsReports at number (r ∷ rs) text =
    (sent : List SentDatagram) × (rest : List ℕ) × (text ≡ event_line at r ++ sent_lines number sent ++ rest)
    × PrintsReports (at + 1) (number + length sent) rs rest

-- the text could not be read on after these events, or the event of the place behind them was not played
abbrev pub StopsAfter : (A : Type 0) → Option (List ℕ) → Bool → List (Event A) → Stop → Type 0
StopsAfter A known may_fail es (stop.Text f) = FailsAfter A known may_fail es f
StopsAfter A known may_fail es (stop.Event fault at line datagram) = at ≡ length es

-- Events of a lawful setup have one report each, which are printed and told. The events are those of the first event
-- lines. If none is forged, the reports are a run of the machine from its opening.
pub record PrintsRun (A : Type 0) {E : Type 0} (heard : E → Page) (known : Option (List ℕ)) (may_fail : Bool)
    (IsRead : Setup A → Type 0) (old new : Diagnostics E) (result : Result (Unit {0}) Ending) (text : List ℕ)
    : Type 0 where
  pub setup : Setup A
  pub read : IsRead setup
  pub lawful : is_lawful setup ≡ true
  pub events : List (Event A)
  pub reports : List (Report A)
  pub one_each : length reports ≡ length events
  pub here : All (IsEventHere setup.net) events
  pub ends : EndsAfter (StopsAfter A known may_fail events) known result events
  pub run : NoForge events → (m : Machine) × Run (opening_machine setup) events reports m
  pub printed : PrintsReports 0 0 reports text
  pub told : TellsReports heard 0 reports old new

-- A schedule that is read once, with all of its events.
use Rattle.std.specs.Prelude.{ℕ, List, filter, map}
use Rattle.std.specs.List.{All}
use Rattle.at_setup.specs.declared.event.Event.{Event}
use Rattle.at_setup_lines.specs.Drafts.{Draft}
use Rattle.at_schedule.specs.Drafts.{IsRead}
use Rattle.at_schedule.specs.Says.{IsEventHere, SayAll}
use Rattle.at_schedule.specs.Schedules.{is_event_line}
use Rattle.at_schedule.specs.declared.whole.NumberedEvent.{NumberedEvent}

-- the events without the numbers of their lines
abbrev pub events_of : {A : Type 0} → List (NumberedEvent A) → List (Event A)
events_of {A} es = map (λ (e : NumberedEvent A). e.event) es

-- These lines were read: the setup so far, and these events. A requester that an event names is on the setup's network.
abbrev pub AreRead : (A : Type 0) → List (List ℕ) → Draft → List (Event A) → Type 0
AreRead A lines d es = IsRead A lines d × SayAll (filter is_event_line lines) es × All (IsEventHere d.net) es

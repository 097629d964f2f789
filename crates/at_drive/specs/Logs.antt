-- The log of a drive, as it grows.
use Rattle.std.specs.Prelude.{◌<◌, List, [], ◌∷◌, ◌++◌, Option, Some, None, vec_len, vec_capacity}
use Rattle.at_ddp.specs.Outbox.{Outbox}
use Rattle.at_event.specs.declared.Report.{Report}
use Rattle.at_drive.specs.Arrivals.{Came}
use Rattle.at_drive.specs.Drives.{Logged}
use Rattle.at_drive.specs.declared.log.Log.{Log}

abbrev pub news_of : Option Came → List Came
news_of None = []
news_of (Some arrival) = arrival ∷ []

-- one more report needs no memory
abbrev pub HasRoom : {A : Type 0} → Log A → Type 0
HasRoom l =
    (vec_len l.reports < vec_capacity l.reports) × (vec_len l.sent < vec_capacity l.sent)
    × (vec_len l.arrived < vec_capacity l.arrived)

abbrev pub with_report : {A : Type 0} → Logged A → Report A → Outbox → List Came → Logged A
with_report l report out news = record l {
  reports = l.reports ++ report ∷ [];
  sent = l.sent ++ out ∷ [];
  arrived = l.arrived ++ news;
}

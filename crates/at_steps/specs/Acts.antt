-- What happens at a node, and which reports there are.
use Rattle.std.specs.Prelude.{ℕ}
use Rattle.at_event.specs.Kinds.{Speaker, Nobody, reporter_of}
use Rattle.at_event.specs.declared.Call.{Call}
use Rattle.at_event.specs.declared.Report.{Report}
use Rattle.at_event.specs.declared.Report.TheVariants as report
use Rattle.at_event.specs.declared.Timer.{Timer}

-- a call, a timer, the datagram at a place of all that were sent, or bytes that no node sent
pub data Act (A : Type 0) : Type 0 where
  Calls : Call A → Act A
  Fires : Timer → Act A
  Gets : (datagram : ℕ) → Act A
  Forges : Act A

abbrev pub IsSomebodys : Speaker → Type 0
IsSomebodys Nobody = ⊥
IsSomebodys other = Unit {0}

-- which reports there are: those of a protocol, and those that tell of nothing new
abbrev pub IsSaid : {A : Type 0} → Act A → Report A → Type 0
IsSaid act (report.Refused number) = Unit {0}
IsSaid act report.NoMemory = Unit {0}
IsSaid (Gets datagram) report.Ignored = Unit {0}
IsSaid (Gets datagram) report.Again = Unit {0}
IsSaid (Fires time) report.Again = Unit {0}
IsSaid act r = IsSomebodys (reporter_of r)

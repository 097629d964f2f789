-- What the calls of a user's session do: a zone is picked, and what was found is connected to (Inside AppleTalk, ZIP,
-- "GetZoneList"; NBP, "Name lookup").
use Rattle.std.specs.Prelude.{ℕ, Bool, true, false, List, [], Option, Some, None}
use Rattle.at_ddp.specs.declared.address.Address.{Address}
use Rattle.at_adsp_ends.specs.Tables.{EndTable}
use Rattle.at_event.specs.Faults.{number_of}
use Rattle.at_event.specs.Outcomes.{Outcome, idle}
use Rattle.at_event.specs.declared.Report.TheVariants as report
use Rattle.at_event.specs.declared.fault.NodeFault.TheVariants.{NotFound, ZoneNotListed}
use Rattle.at_event.specs.declared.seat.Seat.{Seat}
use Rattle.at_session.specs.Sessions.{SessionState, is_listed, picking}
use Rattle.at_stream_socket.specs.Calls.{connect_called}

abbrev pub picked_as : {A : Type 0} → SessionState → List ℕ → Bool → Outcome A SessionState
picked_as s zone true = record { report = report.Picked; state = picking s zone; out = [] }
picked_as s zone false = idle s (report.Refused (number_of ZoneNotListed))

-- the node's user picks a zone, which has to stand in the list that was read last
abbrev pub pick_called : {A : Type 0} → SessionState → List ℕ → Outcome A SessionState
pick_called s zone = picked_as s zone (is_listed s zone)

-- the node's user connects to the address of what was found, if there is such an entry
abbrev pub open_called : {A : Type 0} → Seat → EndTable → Option Address → Outcome A EndTable
open_called s t None = idle t (report.Refused (number_of NotFound))
open_called s t (Some to) = connect_called s t to

-- What the calls and the timers of the socket for streams do (Inside AppleTalk, ADSP).
use Rattle.std.specs.Prelude.{ℕ, Bool, List, [], Result, Ok, Err}
use Rattle.at_ddp.specs.declared.address.Address.{Address}
use Rattle.at_adsp_end.specs.Fault.{number_of}
use Rattle.at_adsp_end.specs.Positions.{wire}
use Rattle.at_adsp_end.specs.declared.fault.StreamFault.{StreamFault}
use Rattle.at_adsp_end.specs.declared.item.Item.{Item}
use Rattle.at_adsp_end.specs.declared.tick.Tick.{Tick}
use Rattle.at_adsp_ends.specs.Calls.{closed_at, connected, listened, read_at, reset_at, ticked_at, wrote}
use Rattle.at_adsp_ends.specs.Tables.{Done, EndTable, by_id, next_id}
use Rattle.at_event.specs.Outcomes.{Outcome, idle, refused_as}
use Rattle.at_event.specs.declared.Report.{Report}
use Rattle.at_event.specs.declared.Report.TheVariants as report
use Rattle.at_event.specs.declared.streams.StreamReport.TheVariants as adsp_report
use Rattle.at_event.specs.declared.seat.Seat.{Seat}
use Rattle.at_stream_socket.specs.Sockets.{answered, told_by, told_opening, told_read, told_wrote}

-- what came of a call, which may be refused
abbrev pub called : {A X : Type 0} → Seat → EndTable → (X → Report A) → Result (Done X) StreamFault
    → Outcome A EndTable
called s t told (Err fault) = idle t (refused_as (number_of fault))
called s t told (Ok d) = answered s told d

-- the node's user sets whether requests for connections are answered
abbrev pub listen_called : {A : Type 0} → EndTable → Bool → Outcome A EndTable
listen_called t on = record { report = report.Streams adsp_report.ListenSet; state = listened t on; out = [] }

-- the node's user asks an address for a connection
abbrev pub connect_called : {A : Type 0} → Seat → EndTable → Address → Outcome A EndTable
connect_called s t to = called s t told_opening (connected t to (next_id t))

-- the user of an end closes it, writes to it, reads from it, or resets its stream
abbrev pub close_called : {A : Type 0} → Seat → EndTable → ℕ → Outcome A EndTable
close_called s t id = called s t told_by (closed_at wire t (by_id t id))

abbrev pub write_called : {A : Type 0} → Seat → EndTable → ℕ → List Item → Outcome A EndTable
write_called s t id items = called s t told_wrote (wrote wire t items (by_id t id))

abbrev pub read_called : {A : Type 0} → Seat → EndTable → ℕ → ℕ → Outcome A EndTable
read_called s t id count = called s t told_read (read_at wire t count (by_id t id))

abbrev pub reset_called : {A : Type 0} → Seat → EndTable → ℕ → Outcome A EndTable
reset_called s t id = called s t (λ answer. report.Streams adsp_report.Reset) (reset_at wire t (by_id t id))

-- a timer of an end fires
abbrev pub tick_fired : {A : Type 0} → Seat → EndTable → ℕ → Tick → Outcome A EndTable
tick_fired s t id tick = called s t told_by (ticked_at wire t tick (by_id t id))

-- The lines that say why a play ended before its last event.
use Rattle.std.specs.Prelude.{◌≡◌, ℕ, List, ◌++◌, None, codes}
use Rattle.std.specs.Fmt.{decimal}
use Rattle.at_setup.specs.Refusals.{number_of}
use Rattle.at_setup.specs.declared.refusal.EventFault.TheVariants as world
use Rattle.at_faults.specs.declared.fault.Fault.{Fault}
use Rattle.at_faults.specs.declared.fault.Fault.TheVariants as text
use Rattle.at_print.specs.Refusals.{no_memory_line}
use Rattle.at_diagnostics.specs.declared.stop.Stop.{Stop}
use Rattle.at_diagnostics.specs.declared.stop.Stop.TheVariants as stop

-- there is no schedule
abbrev pub text_fault_line : Fault → List ℕ
text_fault_line (text.Unreadable why) = codes "fault 0\n"
text_fault_line (text.Line number rule) = codes "fault " ++ (decimal number ++ codes "\n")
text_fault_line text.NoMemory = no_memory_line

-- why a play ended before its last event
abbrev pub stop_line : Stop → List ℕ
stop_line (stop.Text f) = text_fault_line f
stop_line (stop.Event (world.Refused r) at line datagram) =
    codes "stopped " ++ (decimal (number_of r) ++ (codes " at " ++ (decimal at ++ codes "\n")))
stop_line (stop.Event world.NoMemory at line datagram) = codes "stopped nomemory at " ++ (decimal at ++ codes "\n")

-- the stop that a fault of the text is, before the first event
abbrev pub stop_of : Fault → Stop
stop_of (text.Unreadable why) = stop.Text (text.Unreadable why)
stop_of (text.Line number rule) = stop.Text (text.Line number rule)
stop_of text.NoMemory = stop.Event world.NoMemory 0 0 None

-- the reading failed, or what was read is no longer what it was; no line is at fault
abbrev pub IsOfReading : Fault → Type 0
IsOfReading (text.Unreadable why) = Unit {0}
IsOfReading (text.Line number rule) = ⊥
IsOfReading text.NoMemory = ⊥

-- the line of the event of this place could not be read
abbrev pub IsUnread : ℕ → Stop → Type 0
IsUnread at (stop.Text f) = IsOfReading f
IsUnread at (stop.Event world.NoMemory n line datagram) = n ≡ at
IsUnread at (stop.Event (world.Refused r) n line datagram) = ⊥

-- The lines that a person is told, but for the words of a reason.
use Rattle.std.specs.Prelude.{◌≡◌, ℕ, ◌==◌, if◌then◌else◌, false, List, ◌++◌, Option, Some, None, codes}
use Rattle.std.specs.Fmt.{decimal}
use Rattle.std.specs.List.{list_any}
use Rattle.at_setup.specs.Refusals.{number_of}
use Rattle.at_setup.specs.declared.refusal.EventFault.{EventFault}
use Rattle.at_setup.specs.declared.refusal.EventFault.TheVariants as world
use Rattle.at_faults.specs.declared.fault.Fault.{Fault}
use Rattle.at_faults.specs.declared.fault.Fault.TheVariants as text
use Rattle.at_diagnostics.specs.declared.stop.Stop.{Stop}
use Rattle.at_diagnostics.specs.declared.stop.Stop.TheVariants as stop

-- a reason has no line feed
abbrev pub IsOneLine : List ℕ → Type 0
IsOneLine reason = list_any (λ byte. byte == 10) reason ≡ false

-- the end of a line: a reason, with the number of the refusal if it has one
abbrev pub end_told : Option ℕ → List ℕ → List ℕ
end_told (Some number) reason = reason ++ (codes " (refusal " ++ (decimal number ++ codes ")\n"))
end_told None reason = reason ++ codes "\n"

-- what a line of a file begins with
abbrev pub file_named : List ℕ → List ℕ
file_named file = codes "atnode: " ++ (file ++ codes ": ")

-- of a file, whatever its lines
abbrev pub file_told : List ℕ → List ℕ → List ℕ
file_told file reason = file_named file ++ end_told None reason

-- what a line about a line of the file begins with, which is counted from 1
abbrev pub line_named : List ℕ → ℕ → List ℕ
line_named file line = codes "atnode: " ++ (file ++ (codes ":" ++ (decimal line ++ codes ": ")))

abbrev pub line_told : List ℕ → ℕ → List ℕ → List ℕ
line_told file line reason = line_named file line ++ end_told None reason

-- what a line about an event begins with, by its place and its line; if no line is known, none is told
abbrev pub place_named : List ℕ → ℕ → ℕ → List ℕ
place_named file at line =
    if line == 0 then codes "atnode: " ++ (file ++ (codes ": event " ++ decimal at))
    else codes "atnode: " ++ (file ++ (codes ":" ++ (decimal line ++ (codes ": event " ++ decimal at))))

-- what the line of an event begins with that was not played, or that of a file before any line was read
abbrev pub event_named : List ℕ → ℕ → ℕ → List ℕ
event_named file at line =
    if line == 0 then file_named file else place_named file at line ++ codes " was not played: "

-- the number of the refusal for which an event was not played; want of memory has none
abbrev pub refusal_of : EventFault → Option ℕ
refusal_of (world.Refused r) = Some (number_of r)
refusal_of world.NoMemory = None

-- why there is no schedule
abbrev pub text_told : List ℕ → Fault → List ℕ → List ℕ
text_told file (text.Line number rule) reason = line_told file number reason
text_told file (text.Unreadable why) reason = file_told file reason
text_told file text.NoMemory reason = file_told file reason

-- why a play stopped
abbrev pub stopped_told : List ℕ → EventFault → ℕ → ℕ → List ℕ → List ℕ
stopped_told file fault at line reason = event_named file at line ++ end_told (refusal_of fault) reason

-- why a play ended
abbrev pub stop_told : List ℕ → Stop → List ℕ → List ℕ
stop_told file (stop.Text fault) reason = text_told file fault reason
stop_told file (stop.Event fault at line datagram) reason = stopped_told file fault at line reason

-- what the line of an event begins with that a node refused
abbrev pub refusal_named : List ℕ → ℕ → ℕ → List ℕ
refusal_named file at line = place_named file at line ++ codes " was refused: "

-- why a node refused an event, with the number of the refusal
abbrev pub refusal_told : List ℕ → ℕ → ℕ → ℕ → List ℕ → List ℕ
refusal_told file number at line reason = refusal_named file at line ++ end_told (Some number) reason

-- what the line begins with that a call of the cable failed at an event
abbrev pub cable_named : List ℕ → ℕ → List ℕ
cable_named file at = place_named file at 0 ++ codes ": "

abbrev pub cable_told : List ℕ → ℕ → List ℕ → List ℕ
cable_told file at reason =
    cable_named file at ++ (reason ++ codes "; each call that fails has a line `cable`\n")

-- that there was no memory to drive an event
abbrev pub undriven_told : List ℕ → ℕ → List ℕ
undriven_told file at = place_named file at 0 ++ codes " was not driven: out of memory\n"

-- that some of what was printed could not be written
abbrev pub unwritten_told : List ℕ → List ℕ
unwritten_told file = codes "atnode: " ++ (file ++ codes ": standard output could not be written to its end\n")

-- why a word, a datagram or its packet is refused, with the number of the refusal if it has one
abbrev pub reason_told : Option ℕ → List ℕ → List ℕ
reason_told number reason = codes "atnode: " ++ end_told number reason

-- a sentence about no file
abbrev pub note_told : List ℕ → List ℕ
note_told sentence = codes "atnode: " ++ end_told None sentence

-- that the file is the standard input
abbrev pub input_told : List ℕ
input_told = note_told (codes "the schedule is read from standard input")

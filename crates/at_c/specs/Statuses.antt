-- The numbers by which a program in C is told what came of a call.
use Rattle.std.specs.Prelude.{ℕ, Result, Ok, Err}
use Rattle.at_faults.specs.declared.fault.LineFault.{LineFault}
use Rattle.at_faults.specs.declared.fault.LineFault.TheVariants as of_line
use Rattle.at_held.specs.declared.opening.OpenFault.{OpenFault}
use Rattle.at_held.specs.declared.opening.OpenFault.TheVariants as of_opening
use Rattle.at_held.specs.declared.withheld.Withheld.{Withheld}
use Rattle.at_held.specs.declared.withheld.Withheld.TheVariants as withheld

-- it was done
abbrev pub done : ℕ
done = 0

-- there is no memory for it, and nothing changed
abbrev pub no_memory : ℕ
no_memory = 1

-- the text is no schedule
abbrev pub no_setup : ℕ
no_setup = 2

-- the cable has no node of this number
abbrev pub no_such_node : ℕ
no_such_node = 3

-- the line is no call and no timer, and nothing changed
abbrev pub no_event : ℕ
no_event = 4

-- the handle has no node
abbrev pub not_open : ℕ
not_open = 5

-- there is nothing to hand out
abbrev pub missing : ℕ
missing = 6

-- it is longer than the room for it, and stays where it is
abbrev pub no_room : ℕ
no_room = 7

abbrev pub open_status : OpenFault → ℕ
open_status of_opening.NoSetup = no_setup
open_status of_opening.NoNode = no_such_node
open_status of_opening.NoMemory = no_memory

abbrev pub played_status : Result (Unit {0}) LineFault → ℕ
played_status (Ok u) = done
played_status (Err of_line.NoMemory) = no_memory
played_status (Err (of_line.Unlawful rule)) = no_event

abbrev pub received_status : {E : Type 0} → Result (Unit {0}) E → ℕ
received_status (Ok u) = done
received_status (Err e) = no_memory

abbrev pub handed_status : Result ℕ Withheld → ℕ
handed_status (Ok count) = done
handed_status (Err (withheld.TooLong count)) = no_room
handed_status (Err withheld.Missing) = missing
handed_status (Err withheld.NoMemory) = no_memory

-- the length that is told: of what was handed out or is too long, and else the one before
abbrev pub told_length : Result ℕ Withheld → ℕ → ℕ
told_length (Ok count) before = count
told_length (Err (withheld.TooLong count)) before = count
told_length (Err withheld.Missing) before = before
told_length (Err withheld.NoMemory) before = before

-- How a drive over UDP ends, and what is printed of it. B says what may come of binding a socket at a port. S and R say
-- what may come of a send and of a receive on a cable of such sockets, and K of sending a file back to its beginning.
use Rattle.std.specs.Prelude.{◌≡◌, ◌⊎◌, ◌<◌, ℕ, Bool, true, false, List, ◌++◌, length, Option, Some, Result, Ok, Err}
use Rattle.std.specs.Prelude.{IfSome, codes}
use Rattle.std.specs.Fmt.{decimal}
use Rattle.std.specs.declared.io.Error.{Error}
use Rattle.at_cable.specs.declared.fault.CableFault.{CableFault}
use Rattle.at_opened.specs.Rewinds.{Rewound}
use Rattle.at_faults.specs.Reads.{IsOfBytes}
use Rattle.at_faults.specs.declared.fault.Fault.{Fault}
use Rattle.at_faults.specs.declared.fault.Fault.TheVariants as fault
use Rattle.at_setup.specs.Setups.{is_lawful}
use Rattle.at_setup.specs.declared.setup.Setup.{Setup}
use Rattle.at_schedule.specs.Schedules.{lines_in}
use Rattle.at_drive.specs.Steps.{numbers_of}
use Rattle.at_drive_lines.specs.Drafts.{BeginsSo, IsDriveFault}
use Rattle.at_drive_lines.specs.Lines.{lines_of}
use Rattle.at_drive_lines.specs.NodeLines.{IsFirstLineOf, NoneNames}
use Rattle.at_drive_text.specs.Driven.{Driven}
use Rattle.at_diagnostics.specs.Diagnostics.{TellsReason, TellsStop, TellsWrites, file_of}
use Rattle.at_diagnostics.specs.Lines.{line_told}
use Rattle.at_diagnostics.specs.Stops.{stop_of, text_fault_line}
use Rattle.at_diagnostics.specs.declared.diagnostics.Diagnostics.{Diagnostics}
use Rattle.at_print.specs.Papers.{Page}
use Rattle.at_print.specs.Printers.{Prints}
use Rattle.at_print.specs.Refusals.{no_memory_line}
use Rattle.at_print.specs.declared.printer.Printer.{Printer}
use Rattle.at_print.specs.declared.status.Status.{Status}
use Rattle.at_print.specs.declared.status.Status.TheVariants.{Failed}
use Rattle.at_udp.specs.Binds.{IsBound, IsUnbound}
use Rattle.at_udp.specs.Sockets.{UdpState}
use Rattle.at_udp.specs.declared.bind.BindFault.{BindFault}
use Rattle.at_udp.specs.declared.bind.BindFault.TheVariants as unbound

-- Nothing was driven, and only this is printed. Standard error has the reason, whether it could not be printed, and
-- nothing else.
abbrev pub Fails : {W E : Type 0} → (W → Page) → (E → Page) → (Diagnostics E → Diagnostics E → Type 0) → List ℕ
    → Status → Printer W → Printer W → Diagnostics E → Diagnostics E → Type 0
Fails {E = E} page heard TellsWhy text status old new before after =
    (status ≡ Failed) × Prints page old new text
    × ((mid : Diagnostics E) × TellsWhy before mid × TellsWrites heard new mid after)

-- there is no drive, for such a reason
abbrev pub IsNotRead : {W E : Type 0} → (Fault → Type 0) → (W → Page) → (E → Page) → Status → Printer W → Printer W
    → Diagnostics E → Diagnostics E → Type 0
IsNotRead IsReason page heard status old new before after =
    (f : Fault) × IsReason f
    × Fails page heard (TellsStop heard (stop_of f)) (text_fault_line f) status old new before after

-- the bytes could not be read, or are too many
abbrev pub IsUnreadable : Fault → Type 0
IsUnreadable (fault.Unreadable why) = Unit {0}
IsUnreadable (fault.Line number rule) = ⊥
IsUnreadable fault.NoMemory = ⊥

-- the number of the first line of a node, or 0 if no line names it, or none could be read
abbrev pub IsLineOf : Option (List (List ℕ)) → Bool → ℕ → ℕ → Type 0
IsLineOf known may_fail node number = IfSome known
    (λ lines. IsFirstLineOf lines node number ⊎ ((number ≡ 0) × (NoneNames lines node ⊎ (may_fail ≡ true))))

-- a person is told some reason for which this line is at fault
abbrev pub TellsAt : {E : Type 0} → (E → Page) → ℕ → Diagnostics E → Diagnostics E → Type 0
TellsAt heard number before after = TellsReason heard (line_told (file_of before) number) before after

-- how a drive ends if a node has no socket: the node's line is at fault
abbrev pub EndsUnbound : {W E : Type 0} → Option (List (List ℕ)) → Bool → BindFault → (W → Page) → (E → Page) → Status
    → Printer W → Printer W → Diagnostics E → Diagnostics E → Type 0
EndsUnbound known may_fail unbound.NoMemory page heard status old new before after =
    Fails page heard (TellsStop heard (stop_of fault.NoMemory)) no_memory_line status old new before after
EndsUnbound known may_fail (unbound.NoSocket node port why) page heard status old new before after =
    (number : ℕ) × IsLineOf known may_fail node number
    × Fails page heard (TellsAt heard number) (codes "fault " ++ (decimal number ++ codes "\n")) status old new before
    after

-- The nodes of a setup are at ports above this one. A node has no socket, or all have theirs and are driven by the
-- lines.
abbrev pub DrivesNodes : {A C W E : Type 0} → (ℕ → Result C Error → Type 0)
    → (UdpState C → ℕ → ℕ → List ℕ → Result (Unit {0}) CableFault → UdpState C → Type 0)
    → (UdpState C → ℕ → ℕ → Result (Option (List ℕ)) CableFault → UdpState C → Type 0) → Setup A → ℕ
    → Option (List (List ℕ)) → Bool → (W → Page) → (E → Page) → Status → Printer W → Printer W → Diagnostics E
    → Diagnostics E → Type 0
DrivesNodes {C = C} B S R setup port known may_fail page heard status old new before after =
    ((f : BindFault) × IsUnbound B port (numbers_of setup) f
    × EndsUnbound known may_fail f page heard status old new before after)
    ⊎ ((c c' : UdpState C) × IsBound B port (numbers_of setup) c
    × Driven S R setup known may_fail c c' page heard status old new before after)

-- a text is no drive, or it is one of a lawful setup, whose nodes are driven by its lines
abbrev pub DrivesText : (A : Type 0) {C W E : Type 0} → (ℕ → Result C Error → Type 0)
    → (UdpState C → ℕ → ℕ → List ℕ → Result (Unit {0}) CableFault → UdpState C → Type 0)
    → (UdpState C → ℕ → ℕ → Result (Option (List ℕ)) CableFault → UdpState C → Type 0) → List ℕ → (W → Page)
    → (E → Page) → Status → Printer W → Printer W → Diagnostics E → Diagnostics E → Type 0
DrivesText A B S R text page heard status old new before after =
    IsNotRead (IsDriveFault A (Some (lines_in text)) false) page heard status old new before after
    ⊎ ((setup : Setup A) × (port : ℕ) × (is_lawful setup ≡ true) × BeginsSo setup port (lines_in text)
    × DrivesNodes B S R setup port (Some (lines_in text)) false page heard status old new before after)

-- The bytes could not be read, or they are this text: what the reader held, if that is known.
abbrev pub DrivesStream : (A : Type 0) {C W E : Type 0} → (ℕ → Result C Error → Type 0)
    → (UdpState C → ℕ → ℕ → List ℕ → Result (Unit {0}) CableFault → UdpState C → Type 0)
    → (UdpState C → ℕ → ℕ → Result (Option (List ℕ)) CableFault → UdpState C → Type 0) → Option (List ℕ)
    → (W → Page) → (E → Page) → Status → Printer W → Printer W → Diagnostics E → Diagnostics E → Type 0
DrivesStream A B S R known page heard status old new before after =
    IsNotRead IsOfBytes page heard status old new before after
    ⊎ ((text : List ℕ) × IfSome known (λ all. text ≡ all)
    × DrivesText A B S R text page heard status old new before after)

-- why the lines of a file are no drive: its bytes could not be read, or a line is at fault after it was sent back
abbrev pub IsFileFault : Type 0 → {F : Type 0} → (F → Option (List ℕ)) → (F → Result (Unit {0}) Error → F → Type 0)
    → Fault → Type 0
IsFileFault A remaining K f =
    IsOfBytes f ⊎ ((first : Rewound K) × IsDriveFault A (lines_of (remaining first.file)) true f)

-- a file that was sent back has the lines of a drive that begins so
abbrev pub IsHeadOf : {A F : Type 0} → (F → Option (List ℕ)) → (F → Result (Unit {0}) Error → F → Type 0) → Setup A
    → ℕ → Type 0
IsHeadOf remaining K setup port =
    (first : Rewound K) × IfSome (lines_of (remaining first.file)) (BeginsSo setup port)

-- there was no memory to read these lines, or the nodes are driven by them
abbrev pub DrivesFrom : {A C W E : Type 0} → (ℕ → Result C Error → Type 0)
    → (UdpState C → ℕ → ℕ → List ℕ → Result (Unit {0}) CableFault → UdpState C → Type 0)
    → (UdpState C → ℕ → ℕ → Result (Option (List ℕ)) CableFault → UdpState C → Type 0) → Setup A → ℕ
    → Option (List (List ℕ)) → (W → Page) → (E → Page) → Status → Printer W → Printer W → Diagnostics E → Diagnostics E
    → Type 0
DrivesFrom B S R setup port known page heard status old new before after =
    IsNotRead IsOfBytes page heard status old new before after
    ⊎ DrivesNodes B S R setup port known true page heard status old new before after

-- a file can't be sent back, or there was no memory to read it, or the nodes are driven by the lines that it has now
abbrev pub DrivesAgain : {A C F W E : Type 0} → (ℕ → Result C Error → Type 0)
    → (UdpState C → ℕ → ℕ → List ℕ → Result (Unit {0}) CableFault → UdpState C → Type 0)
    → (UdpState C → ℕ → ℕ → Result (Option (List ℕ)) CableFault → UdpState C → Type 0) → (F → Option (List ℕ))
    → (F → Result (Unit {0}) Error → F → Type 0) → Setup A → ℕ → (W → Page) → (E → Page) → Status → Printer W
    → Printer W → Diagnostics E → Diagnostics E → Type 0
DrivesAgain B S R remaining K setup port page heard status old new before after =
    IsNotRead IsOfBytes page heard status old new before after
    ⊎ ((again : Rewound K)
    × DrivesFrom B S R setup port (lines_of (remaining again.file)) page heard status old new before after)

-- A file is no drive. Or it is one of a lawful setup, as its lines were when they were read for their faults, and it is
-- read again to be driven.
abbrev pub DrivesFile : (A : Type 0) {C F W E : Type 0} → (ℕ → Result C Error → Type 0)
    → (UdpState C → ℕ → ℕ → List ℕ → Result (Unit {0}) CableFault → UdpState C → Type 0)
    → (UdpState C → ℕ → ℕ → Result (Option (List ℕ)) CableFault → UdpState C → Type 0) → (F → Option (List ℕ))
    → (F → Result (Unit {0}) Error → F → Type 0) → (W → Page) → (E → Page) → Status → Printer W → Printer W
    → Diagnostics E → Diagnostics E → Type 0
DrivesFile A B S R remaining K page heard status old new before after =
    IsNotRead (IsFileFault A remaining K) page heard status old new before after
    ⊎ ((setup : Setup A) × (port : ℕ) × (is_lawful setup ≡ true) × IsHeadOf remaining K setup port
    × DrivesAgain B S R remaining K setup port page heard status old new before after)

-- how many bytes a schedule has at most
abbrev pub longest : ℕ
longest = 67108864

-- if it is known that there are more bytes, nothing is driven, for such a reason
abbrev pub IsRejected : {W E : Type 0} → Option (List ℕ) → (Fault → Type 0) → (W → Page) → (E → Page) → Status
    → Printer W → Printer W → Diagnostics E → Diagnostics E → Type 0
IsRejected known IsReason page heard status old new before after =
    IfSome known (λ all. longest < length all → IsNotRead IsReason page heard status old new before after)

-- what was sent back is driven as a file if it went, and as a stream of what is left of it if not
abbrev pub DrivesSentBack : (A : Type 0) {C F W E : Type 0} → (ℕ → Result C Error → Type 0)
    → (UdpState C → ℕ → ℕ → List ℕ → Result (Unit {0}) CableFault → UdpState C → Type 0)
    → (UdpState C → ℕ → ℕ → Result (Option (List ℕ)) CableFault → UdpState C → Type 0) → (F → Option (List ℕ))
    → (F → Result (Unit {0}) Error → F → Type 0) → Result (Unit {0}) Error → F → (W → Page) → (E → Page) → Status
    → Printer W → Printer W → Diagnostics E → Diagnostics E → Type 0
DrivesSentBack A B S R remaining K (Ok u) file page heard status old new before after =
    IsRejected (remaining file) IsUnreadable page heard status old new before after
    × DrivesFile A B S R remaining K page heard status old new before after
DrivesSentBack A B S R remaining K (Err why) file page heard status old new before after =
    IsRejected (remaining file) IsOfBytes page heard status old new before after
    × DrivesStream A B S R (remaining file) page heard status old new before after

-- What was opened is sent back to its beginning first. What came of that decides how it is driven.
abbrev pub DrivesOpened : (A : Type 0) {C F W E : Type 0} → (ℕ → Result C Error → Type 0)
    → (UdpState C → ℕ → ℕ → List ℕ → Result (Unit {0}) CableFault → UdpState C → Type 0)
    → (UdpState C → ℕ → ℕ → Result (Option (List ℕ)) CableFault → UdpState C → Type 0) → (F → Option (List ℕ))
    → (F → Result (Unit {0}) Error → F → Type 0) → F → (W → Page) → (E → Page) → Status → Printer W → Printer W
    → Diagnostics E → Diagnostics E → Type 0
DrivesOpened A {F = F} B S R remaining K file page heard status old new before after =
    (answer : Result (Unit {0}) Error) × (asked : F) × K file answer asked
    × DrivesSentBack A B S R remaining K answer asked page heard status old new before after

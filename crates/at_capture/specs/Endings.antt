-- How the reading of a capture ends.
use Rattle.std.specs.Prelude.{◌≡◌, ℕ, List, [], ◌++◌, None, Result, Ok, Err, codes}
use Rattle.std.specs.Fmt.{decimal}
use Rattle.at_diagnostics.specs.Diagnostics.{TellsReason, file_of}
use Rattle.at_diagnostics.specs.Lines.{file_told, reason_told}
use Rattle.at_diagnostics.specs.declared.diagnostics.Diagnostics.{Diagnostics}
use Rattle.at_pcap.specs.Faults.{number_of}
use Rattle.at_pcap.specs.declared.fault.CaptureFault.{CaptureFault}
use Rattle.at_pcap.specs.declared.reader.CaptureError.{CaptureError}
use Rattle.at_pcap.specs.declared.reader.CaptureError.TheVariants as broken
use Rattle.at_print.specs.Papers.{Page}

-- the fault of a file, and the offset of the header or the record that has it
abbrev pub fault_line : CaptureFault → ℕ → List ℕ
fault_line fault at = codes "fault " ++ (decimal (number_of fault) ++ (codes " at " ++ (decimal at ++ codes "\n")))

-- what is printed if a capture was not read to its end; so many frames were
abbrev pub ending_line : ℕ → Result (Unit {0}) CaptureError → List ℕ
ending_line frames (Ok u) = []
ending_line frames (Err (broken.Fault fault at)) = fault_line fault at
ending_line frames (Err (broken.Unreadable why)) = codes "fault 0\n"
ending_line frames (Err broken.NoMemory) = codes "stopped nomemory at " ++ (decimal frames ++ codes "\n")

-- what a person is told of that
abbrev pub TellsEnding : {E : Type 0} → (E → Page) → Result (Unit {0}) CaptureError → Diagnostics E → Diagnostics E
    → Type 0
TellsEnding heard (Ok u) old new = new ≡ old
TellsEnding heard (Err (broken.Fault fault at)) old new =
    TellsReason heard (reason_told None) old new
TellsEnding heard (Err (broken.Unreadable why)) old new =
    TellsReason heard (file_told (file_of old)) old new
TellsEnding heard (Err broken.NoMemory) old new =
    TellsReason heard (file_told (file_of old)) old new

-- What the program drives over UDP: what its command line names.
use Rattle.std.specs.Prelude.{ℕ, List, Option, Result}
use Rattle.std.specs.declared.io.Error.{Error}
use Rattle.at_cable.specs.declared.fault.CableFault.{CableFault}
use Rattle.at_faults.specs.Reads.{IsOfBytes}
use Rattle.at_opened.specs.declared.source.Source.{Source}
use Rattle.at_opened.specs.declared.source.Source.TheVariants as source
use Rattle.at_diagnostics.specs.Diagnostics.{TellsLine}
use Rattle.at_diagnostics.specs.Lines.{input_told}
use Rattle.at_diagnostics.specs.Unopened.{IsUnopened}
use Rattle.at_diagnostics.specs.declared.diagnostics.Diagnostics.{Diagnostics}
use Rattle.at_print.specs.Papers.{Page}
use Rattle.at_print.specs.declared.printer.Printer.{Printer}
use Rattle.at_print.specs.declared.status.Status.{Status}
use Rattle.at_udp.specs.Sockets.{UdpState}
use Rattle.at_udp_text.specs.Ends.{DrivesOpened, DrivesStream, IsRejected}

-- A stream is told of first, and driven as the text that it holds. What was opened is driven as what it is. Of a file
-- that can't be opened nothing is. L says what a stream holds and H what a file does; the others are as in Ends.
abbrev pub DrivesSource : (A : Type 0) {C I F W E : Type 0} → (ℕ → Result C Error → Type 0)
    → (UdpState C → ℕ → ℕ → List ℕ → Result (Unit {0}) CableFault → UdpState C → Type 0)
    → (UdpState C → ℕ → ℕ → Result (Option (List ℕ)) CableFault → UdpState C → Type 0) → (I → Option (List ℕ))
    → (F → Option (List ℕ)) → (F → Result (Unit {0}) Error → F → Type 0) → Source I F → (W → Page) → (E → Page)
    → Status → Printer W → Printer W → Diagnostics E → Diagnostics E → Type 0
DrivesSource A {E = E} B S R L H K (source.Stream stream) page heard status old new before after =
    (noted : Diagnostics E) × TellsLine heard input_told before noted
    × IsRejected (L stream) IsOfBytes page heard status old new noted after
    × DrivesStream A B S R (L stream) page heard status old new noted after
DrivesSource A B S R L H K (source.Opened file) page heard status old new before after =
    DrivesOpened A B S R H K file page heard status old new before after
DrivesSource A B S R L H K (source.Unopened why) page heard status old new before after =
    IsUnopened page heard status old new before after

-- The faults of a classic capture, each where it comes first.
use Rattle.std.specs.Prelude.{◌≡◌, ◌≢◌, ℕ, ◌+◌, ◌<◌, ◌≤◌, List, length, drop, Option, IfSome}
use Rattle.at_pcap.specs.Captures.{HasMagic}
use Rattle.at_pcap.specs.Orders.{number_in}
use Rattle.at_pcap.specs.declared.order.Order.{Order}
use Rattle.at_pcap.specs.declared.file_header.Precision.{Precision}
use Rattle.at_pcap.specs.declared.fault.CaptureFault.{CaptureFault}
use Rattle.at_pcap.specs.declared.fault.CaptureFault.TheVariants.{NoCapture, CutCapture, BadVersion, RecordTooLong}
use Rattle.at_pcap.specs.declared.fault.CaptureFault.TheVariants.{BadBlock, NoInterface, BadResolution}
use Rattle.at_pcap.specs.declared.fault.ReadError.{ReadError}
use Rattle.at_pcap.specs.declared.fault.ReadError.TheVariants as error

-- the number by which a fault is reported
abbrev pub number_of : CaptureFault → ℕ
number_of NoCapture = 80
number_of CutCapture = 81
number_of BadVersion = 82
number_of RecordTooLong = 83
number_of BadBlock = 84
number_of NoInterface = 85
number_of BadResolution = 86

-- the bytes begin with a magic number
abbrev pub HasAnyMagic : List ℕ → Type 0
HasAnyMagic bytes = (o : Order) × (p : Precision) × HasMagic o p bytes

-- the field of the version is there, and is not 2
abbrev pub HasBadVersion : List ℕ → Type 0
HasBadVersion bytes =
    (o : Order) × (p : Precision) × HasMagic o p bytes × (6 ≤ length bytes) × (number_in o 2 (drop 4 bytes) ≢ 2)

-- the first fault of bytes that do not begin with a file header: a field's fault comes before the end behind it
abbrev pub FailsFileHeader : CaptureFault → List ℕ → Type 0
FailsFileHeader NoCapture bytes = ¬ HasAnyMagic bytes
FailsFileHeader BadVersion bytes = HasBadVersion bytes
FailsFileHeader CutCapture bytes = HasAnyMagic bytes × (¬ HasBadVersion bytes) × (length bytes < 24)
FailsFileHeader fault bytes = ⊥

-- how many captured bytes a record's header says that it has, behind the time
abbrev pub stated_at : Order → List ℕ → ℕ
stated_at o bytes = number_in o 4 (drop 8 bytes)

-- that field is there, and is too large
abbrev pub IsTooLong : Order → List ℕ → Type 0
IsTooLong o bytes = (12 ≤ length bytes) × (262144 < stated_at o bytes)

-- the first fault of bytes that are not empty, and do not begin with a record
abbrev pub FailsRecord : Order → CaptureFault → List ℕ → Type 0
FailsRecord o RecordTooLong bytes = IsTooLong o bytes
FailsRecord o CutCapture bytes =
    (0 < length bytes) × (¬ IsTooLong o bytes) × (length bytes < 16 + stated_at o bytes)
FailsRecord o fault bytes = ⊥

-- these bytes are all that the reader held, where that is known
abbrev pub AreAll : Option (List ℕ) → List ℕ → Type 0
AreAll known bytes = IfSome known (λ all. all ≡ bytes)

-- all bytes up to the end, or those that were read, have this fault in place of a file header; that needs no memory
abbrev pub TellsFileHeader : Option (List ℕ) → ReadError → Type 0
TellsFileHeader known (error.Fault f) = (bytes : List ℕ) × AreAll known bytes × FailsFileHeader f bytes
TellsFileHeader known (error.Unreadable why) = Unit {0}
TellsFileHeader known error.NoMemory = ⊥

-- the same in place of a record
abbrev pub TellsRecord : Order → Option (List ℕ) → ReadError → Type 0
TellsRecord o known (error.Fault f) = (bytes : List ℕ) × AreAll known bytes × FailsRecord o f bytes
TellsRecord o known (error.Unreadable why) = Unit {0}
TellsRecord o known error.NoMemory = Unit {0}

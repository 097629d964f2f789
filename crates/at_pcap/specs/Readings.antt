-- Which records the bytes of a classic capture have, and where they end.
use Rattle.std.specs.Prelude.{◌≡◌, ℕ, ◌-◌, ◌^◌, min, List, [], ◌++◌, All, Option, Some, None, IfSome}
use Rattle.std.specs.List.{flat_map}
use Rattle.at_pcap.specs.Captures.{IsFileHeader, IsRecord, Record, record_bytes}
use Rattle.at_pcap.specs.Faults.{FailsRecord}
use Rattle.at_pcap.specs.declared.order.Order.{Order}
use Rattle.at_pcap.specs.declared.file_header.FileHeader.{FileHeader}
use Rattle.at_pcap.specs.declared.fault.CaptureFault.{CaptureFault}
use Rattle.at_pcap.specs.declared.fault.ReadError.{ReadError}
use Rattle.at_pcap.specs.declared.fault.ReadError.TheVariants as error
use Rattle.at_pcap.specs.declared.reader.CaptureError.{CaptureError}
use Rattle.at_pcap.specs.declared.reader.CaptureError.TheVariants as broken

-- the records, one behind the other
abbrev pub records_bytes : Order → List Record → List ℕ
records_bytes o ps = flat_map (record_bytes o) ps

-- the bytes begin with this file header and these records, and rest is what follows
pub record BeginsWith (all : List ℕ) (h : FileHeader) (ps : List Record) (rest : List ℕ) : Type 0 where
  pub front : List ℕ
  pub file_header : IsFileHeader front h
  pub each : All IsRecord ps
  pub parts : all ≡ front ++ records_bytes h.order ps ++ rest

-- nothing follows, or what follows has this fault in place of a record
abbrev pub Ends : Order → Option CaptureFault → List ℕ → Type 0
Ends o None rest = rest ≡ []
Ends o (Some fault) rest = FailsRecord o fault rest

-- the bytes are a capture of these records, up to their end or to this fault, which is at rest
pub record IsCapture (all : List ℕ) (h : FileHeader) (ps : List Record) (rest : List ℕ) (ending : Option CaptureFault)
    : Type 0 where
  pub begins : BeginsWith all h ps rest
  pub ends : Ends h.order ending rest

-- a place in a file, up to the largest of 64 bits
abbrev pub place : ℕ → ℕ
place n = min n (2 ^ 64 - 1)

-- these bytes are the first that the reader held, where that is known
abbrev pub AreFirst : Option (List ℕ) → List ℕ → Type 0
AreFirst known bytes = IfSome known (λ all. (rest : List ℕ) × (all ≡ bytes ++ rest))

-- the same error, where a fault is told with its place
abbrev pub broken_at : ReadError → ℕ → CaptureError
broken_at (error.Fault fault) at = broken.Fault fault at
broken_at (error.Unreadable why) at = broken.Unreadable why
broken_at error.NoMemory at = broken.NoMemory

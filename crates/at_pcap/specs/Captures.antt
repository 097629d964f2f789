-- Classic pcap (libpcap's file format): the file header, and the records.
use Rattle.std.specs.Prelude.{◌≡◌, ℕ, ◌+◌, ◌*◌, ◌^◌, ◌<◌, ◌≤◌, List, ◌∷◌, ◌++◌, length}
use Rattle.at_ddp.specs.Datagram.{AreBytes}
use Rattle.at_pcap.specs.Orders.{bytes_in}
use Rattle.at_pcap.specs.declared.order.Order.{Order}
use Rattle.at_pcap.specs.declared.file_header.FileHeader.{FileHeader}
use Rattle.at_pcap.specs.declared.records.RecordHeader.{RecordHeader}
use Rattle.at_pcap.specs.declared.file_header.Precision.{Precision}
use Rattle.at_pcap.specs.declared.file_header.Precision.TheVariants.{Microseconds, Nanoseconds}

-- ---- the file header

-- the magic numbers A1B2C3D4 and A1B23C4D, which say what a fraction of a second counts
abbrev pub magic_of : Precision → ℕ
magic_of Microseconds = 2712847316
magic_of Nanoseconds = 2712812621

-- the bytes begin with the magic number of this order and precision
abbrev pub HasMagic : Order → Precision → List ℕ → Type 0
HasMagic o p bytes = (rest : List ℕ) × (bytes ≡ bytes_in o 4 (magic_of p) ++ rest)

-- version 2 of any minor, 12 bytes that say nothing here, and the link type below 16 bits that say nothing
unfoldable pub file_header_bytes : FileHeader → ℕ → List ℕ → ℕ → List ℕ
file_header_bytes h minor ignored upper =
    bytes_in h.order 4 (magic_of h.precision) ++ bytes_in h.order 2 2 ++ bytes_in h.order 2 minor ++ ignored
    ++ bytes_in h.order 4 (upper * 2 ^ 16 + h.link_type)

-- a file header as it is written: version 2.4, no zone and no accuracy, and at most how many bytes of a frame are
-- captured
abbrev pub written_file_header : FileHeader → ℕ → List ℕ
written_file_header h longest = file_header_bytes h 4 (0 ∷ 0 ∷ 0 ∷ 0 ∷ 0 ∷ 0 ∷ 0 ∷ 0 ∷ bytes_in h.order 4 longest) 0

-- the bytes are this file header
pub record IsFileHeader (bytes : List ℕ) (h : FileHeader) : Type 0 where
  pub minor : ℕ
  pub ignored : List ℕ
  pub upper : ℕ
  pub minor_fits : minor < 2 ^ 16
  pub ignored_len : length ignored ≡ 12
  pub ignored_fits : AreBytes ignored
  pub upper_fits : upper < 2 ^ 16
  pub link_fits : h.link_type < 2 ^ 16
  pub fields : bytes ≡ file_header_bytes h minor ignored upper

-- ---- the records

-- a record, whose captured bytes are the front of a frame of the original length
pub record Record : Type 0 where
  pub seconds : ℕ
  pub fraction : ℕ
  pub original : ℕ
  pub captured : List ℕ

-- each field fits, and the captured bytes are not too many
pub record IsRecord (p : Record) : Type 0 where
  pub seconds : p.seconds < 2 ^ 32
  pub fraction : p.fraction < 2 ^ 32
  pub original : p.original < 2 ^ 32
  pub few : length p.captured ≤ 262144
  pub captured : AreBytes p.captured

-- the same of a record's header
pub record IsRecordHeader (s : RecordHeader) : Type 0 where
  pub seconds : s.seconds < 2 ^ 32
  pub fraction : s.fraction < 2 ^ 32
  pub captured : s.captured ≤ 262144
  pub original : s.original < 2 ^ 32

-- a record's header: four numbers of 4 bytes
unfoldable pub header_bytes : Order → RecordHeader → List ℕ
header_bytes o s =
    bytes_in o 4 s.seconds ++ bytes_in o 4 s.fraction ++ bytes_in o 4 s.captured ++ bytes_in o 4 s.original

-- the record of this header and these captured bytes
abbrev pub record_of : RecordHeader → List ℕ → Record
record_of s bytes = record { seconds = s.seconds; fraction = s.fraction; original = s.original; captured = bytes }

-- the header of a record
abbrev pub header_of : Record → RecordHeader
header_of p = record {
  seconds = p.seconds;
  fraction = p.fraction;
  captured = length p.captured;
  original = p.original;
}

-- a record: its header, then the captured bytes
abbrev pub record_bytes : Order → Record → List ℕ
record_bytes o p = header_bytes o (header_of p) ++ p.captured

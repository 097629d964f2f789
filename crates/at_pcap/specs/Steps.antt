-- The steps of reading a block. No clause of a public function cites this module.
use Rattle.std.specs.Prelude.{◌≡◌, ◌≢◌, ◌⊎◌, ℕ, ◌+◌, ◌-◌, ◌*◌, ◌^◌, nat_lt, ◌<◌, ◌≤◌, ◌==◌, ◌||◌, if◌then◌else◌}
use Rattle.std.specs.Prelude.{List, ◌++◌, length, Option, None, Some, option_map, Result, Ok, Err}
use Rattle.std.specs.Io.KnownBytes.{Consumes, IsAtEnd}
use Rattle.at_pcap.specs.Blocks.{Block, Section, block_in, four_at, is_section}
use Rattle.at_pcap.specs.Faults.{AreAll}
use Rattle.at_pcap.specs.Frames.{Frame, frame_with, time_of}
use Rattle.at_pcap.specs.Orders.{number_in}
use Rattle.at_pcap.specs.Readings.{place}
use Rattle.at_pcap.specs.declared.order.Order.{Order}
use Rattle.at_pcap.specs.declared.frame.FrameHeader.{FrameHeader}
use Rattle.at_pcap.specs.declared.interface.Interface.{Interface}
use Rattle.at_pcap.specs.declared.section.OpenSection.{OpenSection}
use Rattle.at_pcap.specs.declared.fault.CaptureFault.{CaptureFault}
use Rattle.at_pcap.specs.declared.fault.CaptureFault.TheVariants.{BadBlock, CutCapture, RecordTooLong}
use Rattle.at_pcap.specs.declared.fault.ReadError.{ReadError}
use Rattle.at_pcap.specs.declared.fault.ReadError.TheVariants as error
use Rattle.at_pcap.specs.declared.reader.CaptureError.{CaptureError}
use Rattle.at_pcap.specs.declared.reader.CaptureError.TheVariants as broken

-- a section as a value
abbrev pub section_of : {A : Type 0} → OpenSection A → Section
section_of s = record { order = s.order; interfaces = s.interfaces.items }

-- how many bytes the fixed fields of a block end at, by its type
abbrev pub front_len : Order → List ℕ → ℕ
front_len o bytes =
    let kind = number_in o 4 bytes in
    if is_section bytes then 24 else
    (if kind == 1 then 16 else (if (kind == 6) || (kind == 2) then 28 else (if kind == 3 then 12 else 8)))

-- the bytes are all of a block's front, or as many as there were
pub record IsFront (o : Order) (bytes : List ℕ) (left : Option (List ℕ)) : Type 0 where
  pub fits : length bytes ≤ front_len o bytes
  pub short : length bytes < front_len o bytes → IsAtEnd left

-- the front and more bytes, which were read, are a block
pub record Completes (reads : List ℕ → Result Block CaptureFault) (known left : Option (List ℕ)) (front : List ℕ)
    (b : Block) : Type 0 where
  pub more : List ℕ
  pub read : Consumes known left more
  pub is : reads (front ++ more) ≡ Ok b
  pub whole : length (front ++ more) ≡ four_at b.section.order 4 (front ++ more)

-- the front and all bytes behind it have this fault
pub record Breaks {A : Type 0} (reads : List ℕ → Result A CaptureFault) (known : Option (List ℕ)) (front : List ℕ)
    (fault : CaptureFault) : Type 0 where
  pub more : List ℕ
  pub all : AreAll known more
  pub is : reads (front ++ more) ≡ Err fault

-- why a block, or a part of it, is not read
abbrev pub TellsBreak : {A : Type 0} → (List ℕ → Result A CaptureFault) → Option (List ℕ) → List ℕ → ReadError → Type 0
TellsBreak reads known front (error.Fault f) = Breaks reads known front f
TellsBreak reads known front (error.Unreadable why) = Unit {0}
TellsBreak reads known front error.NoMemory = Unit {0}

-- the front and more bytes, so many in all, are this part of a block, whatever follows
pub record IsPart {A : Type 0} (reads : List ℕ → Result A CaptureFault) (known left : Option (List ℕ)) (front : List ℕ)
    (size : ℕ) (value : A) : Type 0 where
  pub bytes : List ℕ
  pub read : Consumes known left bytes
  pub len : length front + length bytes ≡ size
  pub is : (more : List ℕ) → reads (front ++ (bytes ++ more)) ≡ Ok value

-- what came of reading a block: it leaves this section, and these are the captured bytes of its frame, if it has one
abbrev pub ReadsBlock : (List ℕ → Result Block CaptureFault) → Option (List ℕ) → Option (List ℕ) → List ℕ → Section
    → List ℕ → Result (Option FrameHeader) ReadError → Type 0
ReadsBlock reads known left front t captured (Ok h) =
    Completes reads known left front (record { section = t; found = option_map (λ f. frame_with f captured) h })
ReadsBlock reads known left front t captured (Err e) = TellsBreak reads known front e

-- the last bytes of a block are there, and say its total length again
pub record IsClosing (o : Order) (total left : ℕ) (bytes : List ℕ) : Type 0 where
  pub len : length bytes ≡ left
  pub again : four_at o (left - 4) bytes ≡ total

-- they are not all there, or say another length
abbrev pub IsUnclosed : Order → ℕ → ℕ → CaptureFault → List ℕ → Type 0
IsUnclosed o total left CutCapture bytes = length bytes < left
IsUnclosed o total left BadBlock bytes = (left ≤ length bytes) × (four_at o (left - 4) bytes ≢ total)
IsUnclosed o total left fault bytes = ⊥

abbrev pub TellsUnclosed : Order → ℕ → ℕ → Option (List ℕ) → ReadError → Type 0
TellsUnclosed o total left known (error.Fault f) =
    (bytes : List ℕ) × AreAll known bytes × IsUnclosed o total left f bytes
TellsUnclosed o total left known (error.Unreadable why) = Unit {0}
TellsUnclosed o total left known error.NoMemory = Unit {0}

-- the frame of a block, if it has one, was taken
abbrev pub TakesFound : {S : Type 0} → (S → Frame → S → Type 0) → S → Option Frame → S → Type 0
TakesFound takes old None new = new ≡ old
TakesFound takes old (Some f) new = takes old f new

-- a block was read that begins with this front, and its frame was taken
pub record Moves {S : Type 0} (takes : S → Frame → S → Type 0) (known left : Option (List ℕ)) (front : List ℕ)
    (s t : Section) (old new : S) (at after : ℕ) : Type 0 where
  pub found : Option Frame
  pub block : Completes (block_in s) known left front (record { section = t; found = found })
  pub taken : TakesFound takes old found new
  pub here : after ≡ place (at + length (front ++ block.more))

-- why none was
abbrev pub TellsMove : {S : Type 0} → (S → S → Type 0) → Option (List ℕ) → List ℕ → Section → S → S → ℕ → CaptureError
    → Type 0
TellsMove keeps known front s old new at (broken.Fault fault there) =
    (there ≡ at) × (new ≡ old) × Breaks (block_in s) known front fault
TellsMove keeps known front s old new at (broken.Unreadable why) = new ≡ old
TellsMove keeps known front s old new at broken.NoMemory = (new ≡ old) ⊎ keeps old new

-- what the front of a packet says of its frame
abbrev pub header_at : Order → Interface → List ℕ → FrameHeader
header_at o i front = record {
  link_type = i.link_type;
  time = Some (time_of i.resolution (four_at o 12 front * 2 ^ 32 + four_at o 16 front));
  original = four_at o 24 front;
}

-- why so many captured bytes can't be in a block of this length, from this offset on
abbrev pub capture_fault : ℕ → ℕ → ℕ → Option CaptureFault
capture_fault total offset count =
    if nat_lt 262144 count then Some RecordTooLong else
    (if nat_lt total (offset + count + 4) then Some BadBlock else None)

-- Which frames a capture of either form has, and where it ends. S is what takes the frames, and `takes` what taking one
-- does.
use Rattle.std.specs.Prelude.{◌≡◌, ◌⊎◌, ℕ, ◌-◌, List, [], length, map, Option, Some, None, true, false}
use Rattle.std.specs.List.{FoldsTo}
use Rattle.at_pcap.specs.Blocks.{Section, is_section}
use Rattle.at_pcap.specs.Captures.{Record}
use Rattle.at_pcap.specs.Faults.{AreAll, FailsFileHeader}
use Rattle.at_pcap.specs.Frames.{Frame, frame_of}
use Rattle.at_pcap.specs.Readings.{AreFirst, BeginsWith, IsCapture, place}
use Rattle.at_pcap.specs.Sections.{AreBlocks, IsPcapng}
use Rattle.at_pcap.specs.declared.file_header.FileHeader.{FileHeader}
use Rattle.at_pcap.specs.declared.fault.CaptureFault.{CaptureFault}
use Rattle.at_pcap.specs.declared.reader.CaptureError.{CaptureError}
use Rattle.at_pcap.specs.declared.reader.CaptureError.TheVariants as broken

-- the bytes have these frames, up to their end or to this fault, which is at rest: in classic records, in blocks of
-- pcapng, or with a fault in place of a header
pub data IsFile (all : List ℕ) : List Frame → List ℕ → Option CaptureFault → Type 0 where
  Classic : (h : FileHeader) (ps : List Record) (rest : List ℕ) (ending : Option CaptureFault)
      → IsCapture all h ps rest ending → IsFile all (map (frame_of h) ps) rest ending
  Pcapng : (frames : List Frame) (rest : List ℕ) (ending : Option CaptureFault) → IsPcapng all frames rest ending
      → IsFile all frames rest ending
  Neither : (fault : CaptureFault) → FailsFileHeader fault all → is_section all ≡ false
      → IsFile all [] all (Some fault)

-- the bytes begin with these frames, and end behind them
pub data BeginsFile : List ℕ → List Frame → Type 0 where
  Nothing : BeginsFile [] []
  Records : (all : List ℕ) (h : FileHeader) (ps : List Record) → BeginsWith all h ps []
      → BeginsFile all (map (frame_of h) ps)
  Blocks : (all : List ℕ) (frames : List Frame) (s : Section) → is_section all ≡ true → AreBlocks all frames s
      → BeginsFile all frames

module _ {S : Type 0} (takes : S → Frame → S → Type 0) (known : Option (List ℕ)) (old new : S) where
  -- the bytes were a whole file, and its frames were taken
  abbrev pub HoldsFile : Type 0
  HoldsFile =
      (all : List ℕ) × (frames : List Frame) × AreAll known all × IsFile all frames [] None
      × FoldsTo takes old frames new

  -- the bytes have this fault there, and the frames before it were taken
  pub record BreaksFile (fault : CaptureFault) (at : ℕ) : Type 0 where
    pub all : List ℕ
    pub frames : List Frame
    pub rest : List ℕ
    pub are : AreAll known all
    pub is : IsFile all frames rest (Some fault)
    pub here : at ≡ place (length all - length rest)
    pub taken : FoldsTo takes old frames new

  -- the first frames were taken
  pub record BegunFile : Type 0 where
    pub first : List ℕ
    pub frames : List Frame
    pub are : AreFirst known first
    pub begins : BeginsFile first frames
    pub taken : FoldsTo takes old frames new

-- the first frames were taken, and then memory ran out: `keeps` is what a frame leaves that is refused for that
abbrev pub StarvedFile : {S : Type 0} → (S → Frame → S → Type 0) → (S → S → Type 0) → Option (List ℕ) → S → S
    → Type 0
StarvedFile {S} takes keeps known old new =
    (mid : S) × BegunFile takes known old mid × ((new ≡ mid) ⊎ keeps mid new)

-- why a capture was not read to its end
abbrev pub TellsFile : {S : Type 0} → (S → Frame → S → Type 0) → (S → S → Type 0) → Option (List ℕ) → S → S
    → CaptureError → Type 0
TellsFile takes keeps known old new (broken.Fault fault at) = BreaksFile takes known old new fault at
TellsFile takes keeps known old new (broken.Unreadable why) = BegunFile takes known old new
TellsFile takes keeps known old new broken.NoMemory = StarvedFile takes keeps known old new

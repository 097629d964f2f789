-- Which frames a pcapng file has, and where it ends.
use Rattle.std.specs.Prelude.{◌≡◌, ℕ, ◌<◌, List, [], ◌∷◌, ◌++◌, length, Option, Some, None, Ok, Err, true}
use Rattle.at_pcap.specs.Blocks.{Block, Section, block_in, four_at, is_section}
use Rattle.at_pcap.specs.Frames.{Frame}
use Rattle.at_pcap.specs.declared.fault.CaptureFault.{CaptureFault}

-- the bytes are one block, read in this section, and leave this
pub record IsBlock (s : Section) (bytes : List ℕ) (b : Block) : Type 0 where
  pub is : block_in s bytes ≡ Ok b
  pub whole : length bytes ≡ four_at b.section.order 4 bytes

-- the frames, with that of a block behind them, if it has one
abbrev pub with_found : List Frame → Option Frame → List Frame
with_found frames None = frames
with_found frames (Some f) = frames ++ f ∷ []

-- the bytes are blocks one behind the other, which have these frames and leave this section
pub data AreBlocks : List ℕ → List Frame → Section → Type 0 where
  NoBlocks : (s : Section) → AreBlocks [] [] s
  OneMore : (bytes : List ℕ) (frames : List Frame) (s : Section) (block : List ℕ) (b : Block)
      → AreBlocks bytes frames s → IsBlock s block b
      → AreBlocks (bytes ++ block) (with_found frames b.found) b.section

-- nothing follows, or what follows has this fault in place of a block
abbrev pub EndsSection : Section → Option CaptureFault → List ℕ → Type 0
EndsSection s None rest = rest ≡ []
EndsSection s (Some fault) rest = (0 < length rest) × (block_in s rest ≡ Err fault)

-- The bytes are a pcapng file of these frames, up to its end or to this fault, which is at rest. It begins with a
-- section header, so nothing is read in the section before that.
pub record IsPcapng (all : List ℕ) (frames : List Frame) (rest : List ℕ) (ending : Option CaptureFault) : Type 0 where
  pub begins : is_section all ≡ true
  pub front : List ℕ
  pub section : Section
  pub blocks : AreBlocks front frames section
  pub parts : all ≡ front ++ rest
  pub ends : EndsSection section ending rest

-- ADSP segments and their spellings (Inside AppleTalk, ADSP, "Packet format").
use Rattle.std.specs.Prelude.{◌≡◌, ℕ, ◌+◌, ◌*◌, ◌^◌, ◌<◌, ◌≤◌, Bool, List, [], ◌∷◌, ◌++◌, length, ◌⊎◌}
use Rattle.std.specs.Int.{to_be_bytes, w16, w32}
use Rattle.at_ddp.specs.Datagram.{AreBytes}
use Rattle.at_ddp.specs.Bits.{bit}
use Rattle.at_adsp_frame.specs.Openings.{SpellsOpening, code_of, opening, read_dest}
use Rattle.at_adsp_frame.specs.declared.segment.Body.{Body}
use Rattle.at_adsp_frame.specs.declared.segment.Body.TheVariants as body
use Rattle.at_adsp_frame.specs.declared.segment.OpenKind.{OpenKind}
use Rattle.at_adsp_frame.specs.declared.segment.Segment.{Segment}

-- what a segment is for, wherever its data lies in memory
pub data Part : Type 0 where
  -- bytes of the stream, and whether a message ends behind them
  Data : (end : Bool) (bytes : List ℕ) → Part
  -- a probe or an acknowledgement
  Probe : Part
  -- a step of the opening of a connection, to the end with this identifier
  Open : (kind : OpenKind) (dest : ℕ) → Part
  -- close connection advice
  Close : Part
  -- forward reset, and its acknowledgement
  Reset : Part
  ResetAck : Part
  -- retransmit advice
  Advice : Part

abbrev pub part : Body → Part
part (body.Data end bytes) = Data end bytes.now
part body.Probe = Probe
part (body.Open kind dest) = Open kind dest
part body.Close = Close
part body.Reset = Reset
part body.ResetAck = ResetAck
part body.Advice = Advice

-- the fields of a segment
pub record Content : Type 0 where
  pub source : ℕ
  pub first : ℕ
  pub next : ℕ
  pub window : ℕ
  pub ack : Bool
  pub body : Part

abbrev pub content : Segment → Content
content s = record {
  source = s.source;
  first = s.first;
  next = s.next;
  window = s.window;
  ack = s.ack;
  body = part s.body;
}

-- the data that a segment carries
abbrev pub data_of : Part → List ℕ
data_of (Data end bytes) = bytes
data_of _ = []

-- the numbers of a header are in range
pub record AreNumbers (s : Content) : Type 0 where
  pub source : s.source < 2 ^ 16
  pub first : s.first < 2 ^ 32
  pub next : s.next < 2 ^ 32
  pub window : s.window < 2 ^ 16

-- the 13 bytes of a header: the connection, the two sequence numbers, the window, and the descriptor
abbrev pub header : Content → ℕ → List ℕ
header s descriptor =
    to_be_bytes w16 s.source ++ to_be_bytes w32 s.first ++ to_be_bytes w32 s.next ++ to_be_bytes w16 s.window
    ++ (descriptor ∷ [])

-- a control code, with what follows it, is of this part
abbrev pub Names : ℕ → List ℕ → Part → Type 0
Names code rest (Data end bytes) = ⊥
Names code rest Probe = code ≡ 0
Names code rest (Open kind dest) = (code ≡ code_of kind) × SpellsOpening rest kind dest
Names code rest Close = code ≡ 5
Names code rest Reset = code ≡ 6
Names code rest ResetAck = code ≡ 7
Names code rest Advice = code ≡ 8

-- a data packet: end of message, four free bits, and all that follows
pub record SpellsData (bits : ℕ) (rest : List ℕ) (p : Part) : Type 0 where
  pub end : Bool
  pub free : ℕ
  pub in_four_bits : free < 16
  pub fields : bits ≡ 32 * bit end + free
  pub says : p ≡ Data end rest
  pub fits : length rest ≤ 572

-- a control packet: the control bit, a free bit (end of message), and the code; what else follows it is ignored
pub record SpellsControl (bits : ℕ) (rest : List ℕ) (p : Part) : Type 0 where
  pub free : ℕ
  pub in_one_bit : free < 2
  pub code : ℕ
  pub fields : bits ≡ 128 + 32 * free + code
  pub names : Names code rest p

-- the bits of a descriptor, without the one that asks for an acknowledgement, and what follows it are of this part
abbrev pub SpellsPart : ℕ → List ℕ → Part → Type 0
SpellsPart bits rest p = SpellsData bits rest p ⊎ SpellsControl bits rest p

-- the bytes spell the segment, with any content of its free bits
pub record Spells (input : List ℕ) (s : Content) : Type 0 where
  pub numbers : AreNumbers s
  pub bits : ℕ
  pub rest : List ℕ
  pub are_bytes : AreBytes rest
  pub fields : input ≡ header s (64 * bit s.ack + bits) ++ rest
  pub says : SpellsPart bits rest s.body

-- the data, and the destination of an opening, are in range
abbrev pub IsLawfulPart : Part → Type 0
IsLawfulPart (Data end bytes) = AreBytes bytes × (length bytes ≤ 572)
IsLawfulPart (Open kind dest) = (dest < 2 ^ 16) × (dest ≡ read_dest kind dest)
IsLawfulPart _ = Unit {0}

-- a segment whose fields are in range
pub record IsLawful (s : Content) : Type 0 where
  pub numbers : AreNumbers s
  pub body : IsLawfulPart s.body

-- the bits of the canonical descriptor, without the one that asks for an acknowledgement
abbrev pub bits_of : Part → ℕ
bits_of (Data end bytes) = 32 * bit end
bits_of Probe = 128
bits_of (Open kind dest) = 128 + code_of kind
bits_of Close = 128 + 5
bits_of Reset = 128 + 6
bits_of ResetAck = 128 + 7
bits_of Advice = 128 + 8

-- what follows the canonical header; the destination of a request is written as 0
abbrev pub fields_of : Part → List ℕ
fields_of (Data end bytes) = bytes
fields_of (Open kind dest) = opening (read_dest kind dest) 0
fields_of _ = []

-- the canonical spelling, with 0 in the free bits
unfoldable pub spelled : Content → List ℕ
spelled s = header s (64 * bit s.ack + bits_of s.body) ++ fields_of s.body

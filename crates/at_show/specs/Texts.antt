-- What is printed of a word, and of the datagram in it.
use Rattle.std.specs.Prelude.{ℕ, ◌<◌, ◌/◌, List, ◌++◌, length, codes}
use Rattle.at_ddp.specs.Datagram.{Content, BeginsWith}
use Rattle.at_ddp.specs.Fault as ddp
use Rattle.at_ddp.specs.declared.fault.DdpFault.{DdpFault}
use Rattle.at_print.specs.Lines.{header_line}
use Rattle.at_print.specs.Refusals.{no_memory_line, refusal_line}
use Rattle.at_print.specs.Reports.{DataText}
use Rattle.at_words.specs.Hexes.{IsHex}

-- what is printed of bytes: the header and the data of the datagram with which they begin, or the first fault by its
-- number
pub data BytesText (bytes : List ℕ) : List ℕ → Type 0 where
  Begin : (d : Content) (rest text : List ℕ) → BeginsWith bytes d rest → DataText d.kind d.data_ text
      → BytesText bytes (header_line d (length rest) ++ text)
  Stop : (fault : DdpFault) → ddp.IsFirstFault fault bytes → BytesText bytes (refusal_line (ddp.number_of fault))

-- what is printed of a word, if there is room for so many bytes
pub data WordText (word : List ℕ) (room : ℕ) : List ℕ → Type 0 where
  Spelled : (bytes text : List ℕ) → IsHex word bytes → BytesText bytes text → WordText word room text
  NoHex : ((bytes : List ℕ) → ¬ IsHex word bytes) → WordText word room (codes "fault 1\n")
  NoRoom : room < length word / 2 → WordText word room no_memory_line

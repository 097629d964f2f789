-- How items are cut into segments (Inside AppleTalk, ADSP, "Message framing" and "Packet format").
use Rattle.std.specs.Prelude.{ℕ, ◌+◌, ◌==◌, if◌then◌else◌, Bool, true, false, List, [], ◌∷◌, ◌++◌, length, map}
use Rattle.at_adsp_frame.specs.Segments.{Content, Data}
use Rattle.at_adsp_end.specs.Ends.{EndState, packet}
use Rattle.at_adsp_end.specs.Positions.{Numbers}
use Rattle.at_adsp_end.specs.declared.item.Item.{Item}
use Rattle.at_adsp_end.specs.declared.item.Item.TheVariants.{Byte, End}

-- what one segment carries: bytes, and perhaps the end of a message behind them
pub record Piece : Type 0 where
  pub bytes : List ℕ
  pub end : Bool

abbrev pub open_piece : List ℕ → Piece
open_piece bytes = record { bytes = bytes; end = false }

abbrev pub ended_piece : List ℕ → Piece
ended_piece bytes = record { bytes = bytes; end = true }

-- what is left at the end is a piece, if it is anything
abbrev pub last_piece : List ℕ → List Piece
last_piece [] = []
last_piece (b ∷ got) = open_piece (b ∷ got) ∷ []

-- the pieces of these items, behind the bytes so far: a piece has up to 572 bytes, and stops after the end of a message
abbrev pub pieces : List ℕ → List Item → List Piece
pieces got [] = last_piece got
pieces got (End ∷ xs) = ended_piece got ∷ pieces [] xs
pieces got (Byte b ∷ xs) =
    if length got == 572 then open_piece got ∷ pieces (b ∷ []) xs else pieces (got ++ b ∷ []) xs

-- the items of a segment with these bytes
abbrev pub items_in : Bool → List ℕ → List Item
items_in end bytes = map Byte bytes ++ (if end then End ∷ [] else [])

abbrev pub items_of : Piece → List Item
items_of p = items_in p.end p.bytes

-- Each piece as a segment, the first at this position, and the next behind it. Every one asks for an acknowledgement.
abbrev pub numbered : Numbers → EndState → ℕ → List Piece → List Content
numbered N e first [] = []
numbered N e first (p ∷ ps) =
    packet e (N.at first) true (Data p.end p.bytes) ∷ numbered N e (first + length (items_of p)) ps

-- what goes as one more item is cut, behind the bytes so far: the segment that it ends, or for which it is too much
abbrev pub cut_now : Numbers → EndState → ℕ → List ℕ → Item → List Content
cut_now N e first got End = packet e (N.at first) true (Data true got) ∷ []
cut_now N e first got (Byte b) = if length got == 572 then packet e (N.at first) true (Data false got) ∷ [] else []

-- how many bytes these pieces have as segments, each with a header of 13
abbrev pub bytes_of : List Piece → ℕ
bytes_of [] = 0
bytes_of (p ∷ ps) = 13 + length p.bytes + bytes_of ps

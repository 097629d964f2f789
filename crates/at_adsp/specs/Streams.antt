-- Ends of streams as their users see them (Inside AppleTalk, ADSP, "Connection ends"). Segments and positions play no
-- part.
use Rattle.std.specs.Prelude.{ℕ, ◌==◌, ◌&&◌, if◌then◌else◌, Bool, List, [], ◌∷◌, ◌++◌, map, Option}
use Rattle.at_ddp.specs.Address.{same_address}
use Rattle.at_ddp.specs.declared.address.Address.{Address}
use Rattle.at_adsp_end.specs.declared.item.Item.{Item}
use Rattle.at_adsp.specs.Reading.{Written, Put, Reset}

-- An end that was made: the number of the event that made it, its address and its identifier there, and whether
-- listening made it. It asked for its connection at an address, or was asked from there. Its peer is the end that it
-- was opened with, by the event that made that. All that was written at it, and all that was read from it, are kept.
pub record Stream : Type 0 where
  pub birth : ℕ
  pub owner : Address
  pub id : ℕ
  pub listener : Bool
  pub asked : Address
  pub peer : Option ℕ
  pub written : List Written
  pub read : List Item

-- the end got this identifier at this address
abbrev pub has_number : Address → ℕ → Stream → Bool
has_number at id s = same_address s.owner at && (s.id == id)

-- the newest end with this number has this peer
abbrev pub with_peer : Address → ℕ → Option ℕ → List Stream → List Stream
with_peer at id peer [] = []
with_peer at id peer (s ∷ ss) =
    if has_number at id s then record s { peer = peer } ∷ ss else s ∷ with_peer at id peer ss

-- ---- what the users of ends do

-- what the user of an end did with it: nothing; wrote these items, or read them; or reset the stream
pub data Deed : Type 0 where
  Nothing : Deed
  Wrote : (items : List Item) → Deed
  Read : (items : List Item) → Deed
  GaveUp : Deed

abbrev pub written_after : Deed → List Written → List Written
written_after (Wrote items) ws = ws ++ map Put items
written_after GaveUp ws = ws ++ Reset ∷ []
written_after other ws = ws

abbrev pub read_after : Deed → List Item → List Item
read_after (Read items) xs = xs ++ items
read_after other xs = xs

-- the user of the newest end with this number did this
abbrev pub with_deed : Address → ℕ → Deed → List Stream → List Stream
with_deed at id deed [] = []
with_deed at id deed (s ∷ ss) =
    if has_number at id s
    then record s { written = written_after deed s.written; read = read_after deed s.read } ∷ ss
    else s ∷ with_deed at id deed ss

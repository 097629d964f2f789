-- The reading of a zone table page by page (Inside AppleTalk, ZIP, "GetZoneList": a node asks again, from the place
-- after the names that it has, until LastFlag is set).
use Rattle.std.specs.Prelude.{◌≡◌, ℕ, ◌+◌, ◌≤◌, true, false, List, [], ◌∷◌, ◌++◌, length}
use Rattle.at_zip.specs.Page.{Page, page_of}

-- a reading: the names read so far, and room for so many more
pub record Reader : Type 0 where
  pub names : List (List ℕ)
  pub room : ℕ

-- there is room for the names of a page, and the table that they come from is not too long
pub record HasRoomFor (r : Reader) (p : Page) : Type 0 where
  pub fits : length p.names ≤ r.room
  pub few : length r.names + length p.names ≤ 1024

-- the place that a reading asks from next: the one after the names that it has
abbrev pub place_after : List (List ℕ) → ℕ
place_after read = 1 + length read

-- ---- the pages of one table

-- the table begins with these names
pub record BeginsTable (table read : List (List ℕ)) : Type 0 where
  pub rest : List (List ℕ)
  pub begins : table ≡ read ++ rest

-- these pages of a table were read one after another, each from the place after the names before it
abbrev pub InTurn : List (List ℕ) → List (List ℕ) → List Page → Type 0
InTurn table read [] = Unit {0}
InTurn table read (p ∷ ps) = (p ≡ page_of table (place_after read)) × InTurn table (read ++ p.names) ps

-- the names of some pages, in their order
abbrev pub names_of : List Page → List (List ℕ)
names_of [] = []
names_of (p ∷ ps) = p.names ++ names_of ps

-- the last of these pages alone is the table's last
abbrev pub EndsWithLast : List Page → Type 0
EndsWithLast [] = ⊥
EndsWithLast (p ∷ []) = p.last ≡ true
EndsWithLast (p ∷ q ∷ ps) = (p.last ≡ false) × EndsWithLast (q ∷ ps)

-- none of these pages is the table's last
abbrev pub NoneIsLast : List Page → Type 0
NoneIsLast [] = Unit {0}
NoneIsLast (p ∷ ps) = (p.last ≡ false) × NoneIsLast ps

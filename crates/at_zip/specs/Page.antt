-- Pages of a zone table (Inside AppleTalk, ZIP, "ZIP packet formats"). A page is the reply to GetZoneList. Its user
-- bytes and data are those of one ATP response packet.
use Rattle.std.specs.Prelude.{◌≡◌, ◌≢◌, ℕ, ◌+◌, ◌-◌, ◌^◌, ◌<◌, ◌≤◌, ◌↔◌, Bool, false, IsTrue, nat_le, if◌then◌else◌}
use Rattle.std.specs.Prelude.{List, [], ◌∷◌, ◌++◌, length, drop, All}
use Rattle.std.specs.Int.{to_be_bytes, w16}
use Rattle.at_zip.specs.Names.{spelled}
use Rattle.at_zip.specs.Zones.{IsName}

-- some names of a table in their order, and whether the table ends with them
pub record Page : Type 0 where
  pub last : Bool
  pub names : List (List ℕ)

-- only the last page may be without names, and the names are counted in two bytes
pub record IsLawful (p : Page) : Type 0 where
  pub each : All IsName p.names
  pub count : length p.names < 2 ^ 16
  pub some : p.last ≡ false → 0 < length p.names

-- LastFlag, a free byte, and the number of names
abbrev pub user_spelling : ℕ → ℕ → Page → List ℕ
user_spelling flag free p = flag ∷ free ∷ to_be_bytes w16 (length p.names)

-- User bytes and data spell p. Any flag but 0 means the last page. The free byte has any content, and anything follows
-- the counted names.
pub record Spells (user «data» : List ℕ) (p : Page) : Type 0 where
  pub lawful : IsLawful p
  pub flag : ℕ
  pub flag_in_byte : flag < 256
  pub flag_says : IsTrue p.last ↔ (flag ≢ 0)
  pub free : ℕ
  pub free_in_byte : free < 256
  pub rest : List ℕ
  pub fields : user ≡ user_spelling flag free p
  pub follows : «data» ≡ spelled p.names ++ rest

-- the canonical user bytes: LastFlag is 1 or 0, and the free byte 0
abbrev pub page_user : Page → List ℕ
page_user p = user_spelling (if p.last then 1 else 0) 0 p

-- the canonical data, with nothing after the names
abbrev pub page_data : Page → List ℕ
page_data p = spelled p.names

-- the longest run of names, from the first on, whose spellings have at most so many bytes together
abbrev pub longest_run : ℕ → List (List ℕ) → List (List ℕ)
longest_run room [] = []
longest_run room (name ∷ names) =
    if nat_le (length name + 1) room then name ∷ longest_run (room - (length name + 1)) names else []

-- the page from a place on, of which the first is 1: as many names as fit 578 bytes
unfoldable pub page_of : List (List ℕ) → ℕ → Page
page_of table start =
    let names = longest_run 578 (drop (start - 1) table) in
    record { last = nat_le (length table) (start - 1 + length names); names = names }

-- The page has the longest run of names from a place on that fits 578 bytes. It is the last page if the run reaches the
-- table's end.
pub record IsPageFrom (table : List (List ℕ)) (start : ℕ) (p : Page) : Type 0 where
  pub rest : List (List ℕ)
  pub begins : drop (start - 1) table ≡ p.names ++ rest
  pub fits : length (spelled p.names) ≤ 578
  pub longest : (longer after : List (List ℕ)) → drop (start - 1) table ≡ longer ++ after
      → length p.names < length longer → 578 < length (spelled longer)
  pub reaches : IsTrue p.last ↔ (length table ≤ start - 1 + length p.names)

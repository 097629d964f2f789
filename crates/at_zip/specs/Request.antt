-- Requests for a page of zones (Inside AppleTalk, ZIP, "ZIP packet formats": GetZoneList and GetLocalZones in the user
-- bytes of an ATP request).
use Rattle.std.specs.Prelude.{◌≡◌, ℕ, ◌^◌, ◌<◌, ◌≤◌, List, ◌∷◌}
use Rattle.std.specs.Int.{to_be_bytes, w16}
use Rattle.at_zip.specs.declared.request.TableChoice.{TableChoice}
use Rattle.at_zip.specs.declared.request.TableChoice.TheVariants.{All, Local}

-- GetZoneList has code 8, and GetLocalZones has code 9
abbrev pub code_of : TableChoice → ℕ
code_of All = 8
code_of Local = 9

-- the code, a free byte, and the place to begin at; the first place is 1
abbrev pub request_spelling : TableChoice → ℕ → ℕ → List ℕ
request_spelling which free start = code_of which ∷ free ∷ to_be_bytes w16 start

-- the user bytes ask for this table from this place on, with any content of the free byte
pub record RequestSpells (user : List ℕ) (which : TableChoice) (start : ℕ) : Type 0 where
  pub from_first : 1 ≤ start
  pub in_two_bytes : start < 2 ^ 16
  pub free : ℕ
  pub in_one_byte : free < 256
  pub fields : user ≡ request_spelling which free start

-- the canonical user bytes, with 0 in the free byte
abbrev pub request_user : TableChoice → ℕ → List ℕ
request_user which start = request_spelling which 0 start

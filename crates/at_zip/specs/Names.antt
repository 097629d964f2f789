-- Names as a page carries them (Inside AppleTalk, ZIP, "ZIP packet formats": the data of a reply to GetZoneList).
use Rattle.std.specs.Prelude.{◌≡◌, ℕ, List, ◌∷◌, ◌++◌, length, All}
use Rattle.std.specs.List.{flat_map}
use Rattle.at_zip.specs.Zones.{IsName}

-- a length byte, and the bytes of the name
abbrev pub name_spelling : List ℕ → List ℕ
name_spelling name = length name ∷ name

-- the names one behind the other
abbrev pub spelled : List (List ℕ) → List ℕ
spelled names = flat_map name_spelling names

-- the bytes begin with so many names, and rest follows
pub record BeginsWithNames (count : ℕ) (bytes rest : List ℕ) : Type 0 where
  pub names : List (List ℕ)
  pub each : All IsName names
  pub counted : length names ≡ count
  pub follows : bytes ≡ spelled names ++ rest

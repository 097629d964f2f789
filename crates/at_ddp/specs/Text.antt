-- Texts that are the same but for the case of the letters a to z (Inside AppleTalk, NBP, "Entity names"). Only ASCII
-- letters have a case.
use Rattle.std.specs.Prelude.{ℕ, ◌-◌, List, map, nat_le, ◌&&◌, if◌then◌else◌}

-- a to z become A to Z, and every other byte stays as it is
abbrev pub capital : ℕ → ℕ
capital byte = if nat_le 97 byte && nat_le byte 122 then byte - 32 else byte

abbrev pub folded : List ℕ → List ℕ
folded text = map capital text

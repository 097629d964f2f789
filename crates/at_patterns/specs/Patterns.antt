-- Objects and types of patterns, and the texts that they stand for (Inside AppleTalk, NBP, "Entity names").
use Rattle.std.specs.Prelude.{◌&&◌, ◌||◌, ◌+◌, ◌-◌, ◌==◌, nat_le, Bool, List, ℕ, [], ◌∷◌, length, take, drop}
use Rattle.std.specs.Prelude.{Option, Some, None}
use Rattle.std.specs.List.{position_from}
use Rattle.std.specs.Str.{bytes_eq}
use Rattle.at_ddp.specs.Text.{folded}

-- equal but for the case of the letters a to z
abbrev pub same_text : List ℕ → List ℕ → Bool
same_text a b = bytes_eq (folded a) (folded b)

-- `=` alone
abbrev pub is_any_text : List ℕ → Bool
is_any_text pattern = bytes_eq pattern (0x3D ∷ [])

-- this byte stands for zero or more bytes
abbrev pub is_wildcard : ℕ → Bool
is_wildcard byte = byte == 0xC5

-- a text begins with the one and ends with the other, and these do not overlap
abbrev pub is_between : List ℕ → List ℕ → List ℕ → Bool
is_between before after text =
    nat_le (length before + length after) (length text) && same_text before (take (length before) text)
    && same_text after (drop (length text - length after) text)

-- With a wildcard at this place, which is the first, the text has what stands before it and after it. Without one it is
-- the same text.
abbrev pub stands_around : Option ℕ → List ℕ → List ℕ → Bool
stands_around None pattern text = same_text pattern text
stands_around (Some at) pattern text = is_between (take at pattern) (drop (at + 1) pattern) text

-- an object or a type of a pattern stands for this text
abbrev pub stands_for : List ℕ → List ℕ → Bool
stands_for pattern text = is_any_text pattern || stands_around (position_from is_wildcard 0 pattern) pattern text

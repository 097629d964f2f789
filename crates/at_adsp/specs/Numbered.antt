-- Which items of a segment an end takes, by their numbers (Inside AppleTalk, ADSP, "Sequence numbers" and "Data flow").
use Rattle.std.specs.Prelude.{ℕ, ◌+◌, ◌&&◌, nat_le, nat_lt, if◌then◌else◌, List, [], ◌∷◌}
use Rattle.at_adsp_end.specs.declared.item.Item.{Item}

-- Of items whose first has this number, those that are not before the next expected number, and lie within the free
-- room.
abbrev pub numbered_within : ℕ → ℕ → ℕ → List Item → List Item
numbered_within expected room first [] = []
numbered_within expected room first (item ∷ items) =
    if nat_le expected first && nat_lt first (expected + room)
    then item ∷ numbered_within expected room (first + 1) items
    else numbered_within expected room (first + 1) items

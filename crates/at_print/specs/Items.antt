-- What is printed of the items that were read of a stream.
use Rattle.std.specs.Prelude.{ℕ, if◌then◌else◌, Bool, true, false, List, [], ◌∷◌, ◌++◌, codes}
use Rattle.at_adsp_end.specs.declared.item.Item.{Item}
use Rattle.at_adsp_end.specs.declared.item.Item.TheVariants.{Byte, End}
use Rattle.at_print.specs.Lines.{pairs}

abbrev pub is_byte : Item → Bool
is_byte (Byte b) = true
is_byte End = false

-- is the first of them a byte?
abbrev pub starts_with_byte : List Item → Bool
starts_with_byte [] = false
starts_with_byte (item ∷ items) = is_byte item

-- the digits of a byte that follows one go on with its word; every other item begins a word
abbrev pub item_text : Bool → Item → List ℕ
item_text follows_byte (Byte b) = (if follows_byte then [] else codes " ") ++ pairs (b ∷ [])
item_text follows_byte End = codes " end"

-- a word for each run of bytes, and one for each end of a message; a byte may stand before the first item
abbrev pub items_text : Bool → List Item → List ℕ
items_text follows_byte [] = []
items_text follows_byte (item ∷ items) = item_text follows_byte item ++ items_text (is_byte item) items

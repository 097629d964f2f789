-- Which items of a stream words spell.
use Rattle.std.specs.Prelude.{◌≡◌, ◌⊎◌, ℕ, List, [], ◌∷◌, ◌++◌, map, codes}
use Rattle.at_adsp_end.specs.declared.item.Item.{Item}
use Rattle.at_adsp_end.specs.declared.item.Item.TheVariants.{Byte, End}
use Rattle.at_words.specs.Hexes.{IsHex}

-- the word is `end`, for the end of a message, or digits for bytes
abbrev pub IsRun : List ℕ → List Item → Type 0
IsRun word run =
    ((word ≡ codes "end") × (run ≡ End ∷ []))
    ⊎ ((bytes : List ℕ) × IsHex word bytes × (run ≡ map Byte bytes))

-- each word spells a run of the items, in their order
abbrev pub AreItems : List (List ℕ) → List Item → Type 0
AreItems [] items = items ≡ []
AreItems (word ∷ words) items =
    (run rest : List Item) × IsRun word run × (items ≡ run ++ rest) × AreItems words rest

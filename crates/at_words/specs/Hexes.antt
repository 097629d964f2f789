-- What a word of hexadecimal digits spells.
use Rattle.std.specs.Prelude.{◌≡◌, ◌⊎◌, ℕ, ◌<◌, List, [], ◌∷◌, length, Ok}
use Rattle.hex.specs.Hex.{decode_of}

-- the word is `-` and there are no bytes, or it has digits, two for each byte
abbrev pub IsHex : List ℕ → List ℕ → Type 0
IsHex word bytes = ((word ≡ 45 ∷ []) × (bytes ≡ [])) ⊎ ((0 < length word) × (decode_of word ≡ Ok bytes))

-- the word spells four bytes, the user bytes of a packet
abbrev pub IsUser : List ℕ → List ℕ → Type 0
IsUser word user = (decode_of word ≡ Ok user) × (length user ≡ 4)

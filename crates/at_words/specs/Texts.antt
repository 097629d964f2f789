-- Which text a word spells.
use Rattle.std.specs.Prelude.{◌≡◌, ◌≢◌, ◌⊎◌, ◌<◌, ℕ, true, List, [], ◌∷◌, ◌++◌, length, Ok, Option, Some, None, codes}
use Rattle.std.specs.Char.{is_ascii_graphic}
use Rattle.hex.specs.Hex.{decode_of}

-- a printable byte as it is, but for `%`; or `%` and two hexadecimal digits, for any byte
abbrev pub IsGlyph : List ℕ → ℕ → Type 0
IsGlyph piece byte =
    ((piece ≡ byte ∷ []) × (is_ascii_graphic byte ≡ true) × (byte ≢ 37))
    ⊎ ((digits : List ℕ) × (piece ≡ 37 ∷ digits) × (decode_of digits ≡ Ok (byte ∷ [])))

-- the word begins with a piece for this byte, and goes on with the rest
abbrev pub SpellsFirst : List ℕ → ℕ → List ℕ → Type 0
SpellsFirst word byte rest = (piece : List ℕ) × (word ≡ piece ++ rest) × IsGlyph piece byte

-- the word has a piece for each byte
abbrev pub AreGlyphs : List ℕ → List ℕ → Type 0
AreGlyphs word [] = word ≡ []
AreGlyphs word (byte ∷ text) = (rest : List ℕ) × SpellsFirst word byte rest × AreGlyphs rest text

-- the same of at most 32 bytes, and `%` alone for the empty text
abbrev pub IsText : List ℕ → List ℕ → Type 0
IsText word text = (((word ≡ codes "%") × (text ≡ [])) ⊎ AreGlyphs word text) × (length text < 33)

-- the name of a zone, which has a byte at least
abbrev pub IsZoneName : List ℕ → List ℕ → Type 0
IsZoneName word name = IsText word name × (0 < length name)

-- no word for no zone, or one for a zone
abbrev pub AreZone : List (List ℕ) → Option (List ℕ) → Type 0
AreZone ws None = ws ≡ []
AreZone ws (Some zone) = (z : List ℕ) × (ws ≡ z ∷ []) × IsText z zone

-- What is printed of a text, and of a name.
use Rattle.std.specs.Prelude.{ℕ, ◌==◌, ◌||◌, if◌then◌else◌, Bool, List, [], ◌∷◌, ◌++◌, codes}
use Rattle.std.specs.List.{flat_map}
use Rattle.std.specs.Char.{is_ascii_alphanumeric}
use Rattle.at_print.specs.Lines.{pairs}

-- `-`, `_`, `.`, `=` and `*`
abbrev pub is_sign : ℕ → Bool
is_sign c = (c == 45) || ((c == 95) || ((c == 46) || ((c == 61) || (c == 42))))

-- letters, digits and signs
abbrev pub stands_for_itself : ℕ → Bool
stands_for_itself c = is_ascii_alphanumeric c || is_sign c

-- a byte as it is, or `%` and two digits
abbrev pub glyph : ℕ → List ℕ
glyph c = if stands_for_itself c then c ∷ [] else codes "%" ++ pairs (c ∷ [])

-- a text as a word: `%` if it is empty
abbrev pub text_word : List ℕ → List ℕ
text_word [] = codes "%"
text_word (c ∷ text) = flat_map glyph (c ∷ text)

-- an object, a type and a zone
abbrev pub name_text : List ℕ → List ℕ → List ℕ → List ℕ
name_text object kind zone =
    text_word object ++ (codes ":" ++ (text_word kind ++ (codes "@" ++ text_word zone)))

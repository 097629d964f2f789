-- The lines of a schedule, and which of them are events.
use Rattle.std.specs.Prelude.{◌≡◌, ◌⊎◌, ℕ, ◌==◌, ◌||◌, not, if◌then◌else◌, Bool, true, false, List, [], ◌∷◌}
use Rattle.std.specs.Prelude.{codes, filter, map}
use Rattle.std.specs.Str.{bytes_eq}
use Rattle.at_words.specs.Words.{words_of}

-- the lines of a text, each up to a line feed or the text's end
abbrev pub add_first : ℕ → List (List ℕ) → List (List ℕ)
add_first c [] = (c ∷ []) ∷ []
add_first c (line ∷ lines) = (c ∷ line) ∷ lines

abbrev pub lines_in : List ℕ → List (List ℕ)
lines_in [] = []
lines_in (c ∷ text) = if c == 10 then [] ∷ lines_in text else add_first c (lines_in text)

-- the first word of an event
abbrev pub is_event_word : List ℕ → Bool
is_event_word word =
    bytes_eq word (codes "call") || (bytes_eq word (codes "deliver")
    || (bytes_eq word (codes "timer") || bytes_eq word (codes "forge")))

-- empty lines and those that begin with `#`
abbrev pub is_passed_over : List ℕ → Bool
is_passed_over [] = true
is_passed_over (c ∷ line) = c == 35

abbrev pub are_event_words : List (List ℕ) → Bool
are_event_words [] = false
are_event_words (word ∷ words) = is_event_word word

abbrev pub is_event_line : List ℕ → Bool
is_event_line line = if is_passed_over line then false else are_event_words (words_of line)

-- any other line that is not passed over is for the setup
abbrev pub is_setup_line : List ℕ → Bool
is_setup_line line = if is_passed_over line then false else not (are_event_words (words_of line))

-- the words of each line that is for the setup
abbrev pub setup_words : List (List ℕ) → List (List (List ℕ))
setup_words lines = map words_of (filter is_setup_line lines)

-- after an event no line is for the setup
abbrev pub AreInOrder : List (List ℕ) → Type 0
AreInOrder [] = Unit {0}
AreInOrder (line ∷ lines) = (is_event_line line ≡ true → filter is_setup_line lines ≡ []) × AreInOrder lines

-- the lines of a schedule that are events, in their order
abbrev pub event_lines : List ℕ → List (List ℕ)
event_lines text = filter is_event_line (lines_in text)

-- the first word of an event of which bytes or texts may be kept
abbrev pub is_kept_word : List ℕ → Bool
is_kept_word word = bytes_eq word (codes "call") || bytes_eq word (codes "forge")

-- the words are for the setup, or begin such an event
abbrev pub AreKept : List (List ℕ) → Type 0
AreKept [] = ⊥
AreKept (word ∷ words) = (is_event_word word ≡ false) ⊎ (is_kept_word word ≡ true)

-- something of the line may be kept, which takes memory
abbrev pub IsKept : List ℕ → Type 0
IsKept line = (is_passed_over line ≡ false) × AreKept (words_of line)

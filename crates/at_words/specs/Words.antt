-- The words of a line, which are parted by spaces.
use Rattle.std.specs.Prelude.{ℕ, ◌==◌, not, Bool, List, length, filter}
use Rattle.std.specs.List.{slice_split}

abbrev pub is_space : ℕ → Bool
is_space c = c == 32

abbrev pub is_no_space : ℕ → Bool
is_no_space c = not (c == 32)

abbrev pub has_bytes : List ℕ → Bool
has_bytes word = not (length word == 0)

-- what a line has before, between and after its spaces, if it has bytes there
abbrev pub words_of : List ℕ → List (List ℕ)
words_of line = filter has_bytes (slice_split is_space line)

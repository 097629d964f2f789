-- Which of the numbers 0 to 255 a set has. It has a flag for each of them.
use Rattle.std.specs.Prelude.{◌≡◌, ℕ, Bool, true, List, slice_get, Some}

abbrev pub HasNumber : List Bool → ℕ → Type 0
HasNumber flags n = slice_get flags n ≡ Some true

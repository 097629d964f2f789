-- The number that a word says.
use Rattle.std.specs.Prelude.{◌≡◌, ◌<◌, ℕ, List, min}
use Rattle.std.specs.Str.Parse.{IsNumeral, digits_value}

-- the word is a decimal number
abbrev pub IsNumber : List ℕ → ℕ → Type 0
IsNumber word n = IsNumeral 10 word × (n ≡ digits_value 10 word)

-- the same of a datagram's number, which is the largest of 64 bits if it is larger
abbrev pub IsCount : List ℕ → ℕ → Type 0
IsCount word n = IsNumeral 10 word × (n ≡ min (digits_value 10 word) 18446744073709551615)

-- the number of a node or of a socket, 1 to 254
abbrev pub IsNode : List ℕ → ℕ → Type 0
IsNode word n = IsNumber word n × (0 < n) × (n < 255)

-- a network's number or a room's size, 1 to 65,535
abbrev pub IsPositive : List ℕ → ℕ → Type 0
IsPositive word n = IsNumber word n × (0 < n) × (n < 65536)

-- a number of one byte
abbrev pub IsByte : List ℕ → ℕ → Type 0
IsByte word n = IsNumber word n × (n < 256)

-- a number of two bytes
abbrev pub IsTwoBytes : List ℕ → ℕ → Type 0
IsTwoBytes word n = IsNumber word n × (n < 65536)

-- Flags in bytes.
use Rattle.std.specs.Prelude.{ℕ, if◌then◌else◌, Bool}

-- a flag as the bit that stands for it: 1 if it is set
abbrev pub bit : Bool → ℕ
bit b = if b then 1 else 0

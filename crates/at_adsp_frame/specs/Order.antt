-- The order of sequence numbers (Inside AppleTalk, ADSP, "Sequence numbers").
use Rattle.std.specs.Prelude.{ℕ, ◌+◌, ◌-◌, ◌%◌, ◌^◌, ◌≤◌}

-- how many bytes after a the byte b is: b - a modulo 2 ^ 32
abbrev pub distance : ℕ → ℕ → ℕ
distance a b = (b + 2 ^ 32 - a) % 2 ^ 32

-- a comes before b: b is 1 to 2 ^ 31 - 1 bytes after a
pub record IsBefore (a b : ℕ) : Type 0 where
  pub after : 1 ≤ distance a b
  pub near : distance a b ≤ 2 ^ 31 - 1

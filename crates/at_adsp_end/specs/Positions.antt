-- Positions in a stream, and their sequence numbers (Inside AppleTalk, ADSP, "Sequence numbers").
use Rattle.std.specs.Prelude.{ℕ, ◌+◌, ◌-◌, ◌%◌, ◌^◌, nat_le, nat_lt, if◌then◌else◌, Option, Some, None}

-- what numbers are: the number of a position, how far b lies past a, and the same if b is not behind a
pub record Numbers : Type 0 where
  pub at : ℕ → ℕ
  pub far : ℕ → ℕ → ℕ
  pub ahead : ℕ → ℕ → Option ℕ

-- numbers of any size, for laws about whole streams
abbrev pub whole : Numbers
whole = record {
  at = λ p. p;
  far = λ a b. b - a;
  ahead = λ a b. if nat_le a b then Some (b - a) else None;
}

-- how far b lies past a, where numbers begin again after m
abbrev pub far_around : ℕ → ℕ → ℕ → ℕ
far_around m a b = (b + (m - a)) % m

-- b is not behind a if it lies less than half of all numbers past it
abbrev pub ahead_around : ℕ → ℕ → ℕ → ℕ → Option ℕ
ahead_around m half a b = if nat_lt (far_around m a b) half then Some (far_around m a b) else None

abbrev pub around : ℕ → ℕ → Numbers
around m half = record {
  at = λ p. p % m;
  far = far_around m;
  ahead = ahead_around m half;
}

-- the numbers of segments, which have four bytes
abbrev pub wire : Numbers
wire = around (2 ^ 32) (2 ^ 31)

-- The numbers of a header as they stand in its bytes.
use Rattle.std.specs.Prelude.{ℕ, ◌+◌, ◌*◌, ◌/◌, ◌%◌}

-- a descriptor without the bit that asks for an acknowledgement
abbrev pub bits_beside_ack : ℕ → ℕ
bits_beside_ack descriptor = 128 * (descriptor / 128) + descriptor % 64

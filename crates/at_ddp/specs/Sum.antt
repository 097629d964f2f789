-- The checksum of a datagram (Inside AppleTalk, DDP, "Checksum").
use Rattle.std.specs.Prelude.{ℕ, ◌+◌, ◌%◌, ◌==◌, List, fold, if◌then◌else◌}
use Rattle.std.specs.Int.{rotate_left, w16}

-- the running sum after one byte more: add it modulo 65,536, then rotate the 16 bits left by one
abbrev pub added : ℕ → ℕ → ℕ
added sum byte = rotate_left w16 ((sum + byte) % 65536) 1

-- a checksum of 0 is written 0xFFFF, since 0 means that none was computed
abbrev pub written_sum : ℕ → ℕ
written_sum sum = if sum == 0 then 0xFFFF else sum

-- the checksum of bytes, from a running sum of 0
unfoldable pub sum_of : List ℕ → ℕ
sum_of bytes = written_sum (fold added 0 bytes)

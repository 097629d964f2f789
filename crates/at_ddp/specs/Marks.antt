-- How finished datagrams lie in memory one behind the other.
use Rattle.std.specs.Prelude.{◌≡◌, ℕ, zero, suc, ◌+◌, ◌≤◌, List, [], ◌∷◌, slice_get, slice_range}
use Rattle.std.specs.Option.{option_map_or}
use Rattle.at_ddp.specs.Outbox.{Posted}
use Rattle.at_ddp.specs.declared.outbox.Mark.{Mark}

-- the bytes from start on, cut at the marks
abbrev pub pieces : ℕ → List Mark → List ℕ → List Posted
pieces start [] bytes = []
pieces start (m ∷ ms) bytes = record { node = m.node; bytes = slice_range bytes start m.end } ∷ pieces m.end ms bytes

-- the marks ascend from start on, up to the number of bytes
abbrev pub AreMarks : ℕ → List Mark → ℕ → Type 0
AreMarks start [] len = start ≡ len
AreMarks start (m ∷ ms) len = (start ≤ m.end) × AreMarks m.end ms len

-- the same mark, where so many bytes come before its datagrams
abbrev pub behind : ℕ → Mark → Mark
behind base m = record m { end = base + m.end }

-- where the piece at an index starts
abbrev pub start_at : ℕ → List Mark → ℕ → ℕ
start_at start ms zero = start
start_at start ms (suc i) = option_map_or (λ (m : Mark). m.end) (slice_get ms i) start

-- What a reader gives.
use Rattle.std.specs.Prelude.{Option, Some, None}

-- what was read is so, or nothing was read since nothing is so
abbrev pub IsFound : {T : Type 0} → Option T → (T → Type 0) → Type 0
IsFound {T} None P = (x : T) → ¬ P x
IsFound (Some x) P = P x

-- Room that a program gives for bytes.
use Rattle.std.specs.Prelude.{◌≡◌, ℕ, ◌≤◌, ◌<◌, List, ◌++◌, length, drop, Result, Ok, Err}
use Rattle.at_held.specs.declared.withheld.Withheld.{Withheld}
use Rattle.at_held.specs.declared.withheld.Withheld.TheVariants as withheld

-- the bytes stand at the start of the room, and what is behind them stays
abbrev pub placed : List ℕ → List ℕ → List ℕ
placed bytes room = bytes ++ drop (length bytes) room

-- there is room for the bytes
abbrev pub Fits : List ℕ → List ℕ → Type 0
Fits bytes room = length bytes ≤ length room

-- they are too long for it, as is told, and it stays as it is
abbrev pub IsTooLong : List ℕ → List ℕ → Withheld → List ℕ → Type 0
IsTooLong bytes before why after =
    (why ≡ withheld.TooLong (length bytes)) × (length before < length bytes) × (after ≡ before)

-- the bytes are copied, and their number is returned; or they are too long
abbrev pub IsPlaced : List ℕ → List ℕ → Result ℕ Withheld → List ℕ → Type 0
IsPlaced bytes before (Ok count) after =
    (count ≡ length bytes) × Fits bytes before × (after ≡ placed bytes before)
IsPlaced bytes before (Err why) after = IsTooLong bytes before why after

-- The calls of a cable: what an answer says of the count of failures, and what a receive tells.
use Rattle.std.specs.Prelude.{◌≡◌, ℕ, ◌+◌, ◌-◌, ◌^◌, ◌<◌, min, List, take, Option, Some, None, Result, Ok, Err}

-- where the count of failures ends: once it stands there, every call fails
abbrev pub last_count : ℕ
last_count = 2 ^ 64 - 1

-- An answer is an error exactly if the count rose by one in the call, or had come to its end before.
abbrev pub IsCounted : {T F : Type 0} → ℕ → Result T F → ℕ → Type 0
IsCounted n (Ok answer) m = (m ≡ n) × (n < last_count)
IsCounted n (Err fault) m = m ≡ min (n + 1) last_count

-- the answer of a receive with the bytes that it left at the buffer's start
abbrev pub received : {F : Type 0} → Result (Option ℕ) F → List ℕ → Result (Option (List ℕ)) F
received (Ok (Some count)) buffer = Ok (Some (take count buffer))
received (Ok None) buffer = Ok None
received (Err fault) buffer = Err fault

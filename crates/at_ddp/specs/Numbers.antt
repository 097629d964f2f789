-- Numbers that are drawn in turn, go round, and pass over those in use: of transactions, lookups and ends of streams.
use Rattle.std.specs.Prelude.{ℕ, zero, suc, if◌then◌else◌, Bool, Option, Some, None}

-- the first number from this one on that is not in use, if it takes at most so many tries, and which follows each
abbrev pub first_free : {N : Type 0} → (N → N) → (N → Bool) → ℕ → N → Option N
first_free following in_use zero first = None
first_free following in_use (suc tries) first =
    if in_use first then first_free following in_use tries (following first) else Some first

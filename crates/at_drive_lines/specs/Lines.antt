-- The lines of a text that are left.
use Rattle.std.specs.Prelude.{◌≡◌, ℕ, List, [], ◌∷◌, ◌++◌, Option, Some, None, IfSome}
use Rattle.at_schedule.specs.Schedules.{lines_in}

-- the lines of a text, if it is known
abbrev pub lines_of : Option (List ℕ) → Option (List (List ℕ))
lines_of None = None
lines_of (Some text) = Some (lines_in text)

-- the first of the lines that were left was read, and those after it are left
abbrev pub HasNext : Option (List (List ℕ)) → List ℕ → Option (List (List ℕ)) → Type 0
HasNext None line after = Unit {0}
HasNext (Some lines) line after = (later : List (List ℕ)) × (lines ≡ line ∷ later) × (after ≡ Some later)

-- no line was left
abbrev pub IsLast : Option (List (List ℕ)) → Type 0
IsLast known = IfSome known (λ lines. lines ≡ [])

-- of the lines that were left at first, these were read, and the others are left
abbrev pub HaveCome : Option (List (List ℕ)) → List (List ℕ) → Option (List (List ℕ)) → Type 0
HaveCome None read after = Unit {0}
HaveCome (Some lines) read after = (later : List (List ℕ)) × (lines ≡ read ++ later) × (after ≡ Some later)

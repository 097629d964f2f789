-- The numbers that nodes drew, and the event that drew each last.
use Rattle.std.specs.Prelude.{ℕ, ◌==◌, ◌&&◌, nat_le, if◌then◌else◌, Bool, true, false, List, [], ◌∷◌, Option, Some}
use Rattle.std.specs.Prelude.{None}
use Rattle.at_node.specs.declared.numbers.Draw.{Draw}
use Rattle.at_node.specs.declared.numbers.Draw.TheVariants.{Tid, Lookup, Conn}

-- each number of each node that was ever drawn, with the event of its last draw
abbrev pub Draws : Type 0
Draws = List ((ℕ × Draw) × ℕ)

abbrev pub same_draw : Draw → Draw → Bool
same_draw (Tid a) (Tid b) = a == b
same_draw (Lookup a) (Lookup b) = a == b
same_draw (Conn a) (Conn b) = a == b
same_draw a b = false

abbrev pub is_number : ℕ → Draw → ℕ × Draw → Bool
is_number node draw number = (node == number.0) && same_draw draw number.1

-- the event that drew a number of a node last
abbrev pub last_of : Draws → ℕ → Draw → Option ℕ
last_of [] node draw = None
last_of (d ∷ ds) node draw = if is_number node draw d.0 then Some d.1 else last_of ds node draw

-- the draws after an event drew this number of a node
abbrev pub drawn_at : Draws → ℕ → Draw → ℕ → Draws
drawn_at [] node draw event = ((node, draw), event) ∷ []
drawn_at (d ∷ ds) node draw event =
    if is_number node draw d.0 then (d.0, event) ∷ ds else d ∷ drawn_at ds node draw event

-- the same, if it drew one
abbrev pub noted : Draws → ℕ → ℕ → Option Draw → Draws
noted ds node event None = ds
noted ds node event (Some draw) = drawn_at ds node draw event

-- no event after this one drew it
abbrev pub is_no_later : Option ℕ → ℕ → Bool
is_no_later None event = true
is_no_later (Some drawn) event = nat_le drawn event

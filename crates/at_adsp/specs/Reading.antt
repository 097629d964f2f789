-- What may be read of what was written, where the writer may reset its stream (Inside AppleTalk, ADSP, "Data flow" and
-- "Forward resets"). Numbers, windows and queues play no part.
use Rattle.std.specs.Prelude.{◌≡◌, Bool, true, false, List, [], ◌∷◌, ◌++◌}
use Rattle.std.specs.List.{AllByRecursion}
use Rattle.at_adsp_end.specs.declared.item.Item.{Item}

-- what is written: a byte or the end of a message, or a reset
pub data Written : Type 0 where
  Put : (item : Item) → Written
  Reset : Written

abbrev pub is_put : Written → Bool
is_put (Put item) = true
is_put Reset = false

-- the stream was not reset
abbrev pub NoReset : List Written → Type 0
NoReset ws = AllByRecursion (λ w. is_put w ≡ true) ws

-- What is read reads from what is written: nothing is read; or the same item stands first in both, and the rests agree;
-- or a reset is passed, with all that was written before it.
pub data ReadsFrom : List Item → List Written → Type 0 where
  nothing : {ws : List Written} → ReadsFrom [] ws
  same : {x : Item} {xs : List Item} {ws : List Written} → ReadsFrom xs ws → ReadsFrom (x ∷ xs) (Put x ∷ ws)
  passes : {xs : List Item} {all : List Written} (before ws : List Written) → all ≡ before ++ Reset ∷ ws
      → NoReset before → ReadsFrom xs ws → ReadsFrom xs all

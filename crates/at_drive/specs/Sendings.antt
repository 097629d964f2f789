-- The sends of a step.
use Rattle.std.specs.Prelude.{◌≡◌, ℕ, List, [], ◌∷◌, ◌++◌, Result, Ok, Err}
use Rattle.at_cable.specs.declared.fault.CableFault.{CableFault}
use Rattle.at_ddp.specs.Outbox.{Posted}

-- a call that failed is noted by the place of its step
abbrev pub fault_of : {T : Type 0} → ℕ → Result T CableFault → List ℕ
fault_of at (Ok answer) = []
fault_of at (Err fault) = at ∷ []

-- The datagrams of a node are sent on a cable in order, each of them once, also after one whose send failed. These are
-- the notes of the sends that failed. S says what may come of a send.
abbrev pub Sends : {C : Type 0} → (C → ℕ → ℕ → List ℕ → Result (Unit {0}) CableFault → C → Type 0) → ℕ → ℕ
    → List Posted → C → List ℕ → C → Type 0
Sends S at from [] c notes c' = (notes ≡ []) × (c' ≡ c)
Sends {C} S at from (p ∷ ps) c notes c' =
    (answer : Result (Unit {0}) CableFault) × (mid : C) × (later : List ℕ) × S c from p.node p.bytes answer mid
    × Sends S at from ps mid later c' × (notes ≡ fault_of at answer ++ later)

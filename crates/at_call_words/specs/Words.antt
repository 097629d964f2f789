-- How many words stand, and what each of them says.
use Rattle.std.specs.Prelude.{◌≡◌, ℕ, List, [], ◌∷◌}

-- one word alone, which says this
abbrev pub One : {T : Type 0} → (List ℕ → T → Type 0) → List (List ℕ) → T → Type 0
One P ws x = (w : List ℕ) × (ws ≡ w ∷ []) × P w x

-- two words, which say these
abbrev pub Two : {S T : Type 0} → (List ℕ → S → Type 0) → (List ℕ → T → Type 0) → List (List ℕ) → S → T → Type 0
Two P Q ws x y = (v w : List ℕ) × (ws ≡ v ∷ w ∷ []) × P v x × Q w y

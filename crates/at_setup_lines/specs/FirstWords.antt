-- The words with which the lines of a setup begin.
use Rattle.std.specs.Prelude.{◌≡◌, ◌⊎◌, ℕ, List, [], ◌∷◌, codes}

-- the line begins with `net`, `node`, `zones` or `local`
abbrev pub HasHead : List (List ℕ) → Type 0
HasHead [] = ⊥
HasHead (word ∷ words) =
    (word ≡ codes "net") ⊎ ((word ≡ codes "node") ⊎ ((word ≡ codes "zones") ⊎ (word ≡ codes "local")))

-- each of these lines does
abbrev pub HaveHeads : List (List (List ℕ)) → Type 0
HaveHeads [] = Unit {0}
HaveHeads (line ∷ lines) = HasHead line × HaveHeads lines

-- Where the line of a node stands.
use Rattle.std.specs.Prelude.{◌≡◌, ℕ, List, ◌∷◌, ◌++◌, codes}
use Rattle.std.specs.List.{All}
use Rattle.at_words.specs.Numbers.{IsNode}
use Rattle.at_words.specs.Words.{words_of}
use Rattle.at_schedule.specs.Drafts.{number_after}

-- the line begins with `node` and this node's number
abbrev pub Names : ℕ → List ℕ → Type 0
Names node line =
    (n : List ℕ) × (rest : List (List ℕ)) × (words_of line ≡ codes "node" ∷ n ∷ rest) × IsNode n node

-- no line of these does
abbrev pub NoneNames : List (List ℕ) → ℕ → Type 0
NoneNames lines node = All (λ line. ¬ Names node line) lines

-- the line of this number, counted from 1, is the first that does
pub record IsFirstLineOf (lines : List (List ℕ)) (node number : ℕ) : Type 0 where
  pub before : List (List ℕ)
  pub line : List ℕ
  pub after : List (List ℕ)
  pub parts : lines ≡ before ++ line ∷ after
  pub numbered : number ≡ number_after before
  pub names : Names node line
  pub first : NoneNames before node

-- The lines by which a setup is whole, of which some lines were read.
use Rattle.std.specs.Prelude.{◌≡◌, ◌⊎◌, ◌<◌, ◌≤◌, nat_le, ℕ, true, List, [], ◌∷◌, ◌++◌, codes, length, map}
use Rattle.std.specs.Fmt.{decimal}
use Rattle.std.specs.List.{list_all}
use Rattle.at_words.specs.Words.{words_of}
use Rattle.at_setup.specs.declared.setup.NodeSetup.{NodeSetup}
use Rattle.at_setup.specs.declared.setup.Setup.{Setup}
use Rattle.at_setup_lines.specs.Drafts.{Draft, has_events}
use Rattle.at_setup_lines.specs.NodeLists.{lacks_router}
use Rattle.at_setup_lines.specs.SetupLines.{IsSetup}

-- the line of a router of this number, in a zone
abbrev pub router_line : ℕ → List ℕ
router_line k = codes "node " ++ (decimal k ++ codes " router zone A")

-- no line, or that of a network, or that of a router of a number up to this one
abbrev pub IsEnding : ℕ → List (List ℕ) → Type 0
IsEnding most more =
    (more ≡ []) ⊎ ((more ≡ codes "net 1" ∷ []) ⊎ ((k : ℕ) × (k ≤ most) × (more ≡ router_line k ∷ [])))

-- a router that has to follow finds a number up to this one: there are more than 15, or more than the nodes have
abbrev pub HasPlace : ℕ → Draft → Type 0
HasPlace most d = (most < 255) × ((15 < most) ⊎ (lacks_router d.nodes ≡ true → length d.nodes < most))

-- The lines are a setup with a line more at most, and with none more if an event came. A node that is added has a
-- number up to this one.
pub record CanEnd (A : Type 0) (most : ℕ) (d : Draft) (lines : List (List (List ℕ))) : Type 0 where
  pub more : List (List ℕ)
  pub setup : Setup A
  pub ending : IsEnding most more
  pub over : has_events d ≡ true → more ≡ []
  pub whole : IsSetup (lines ++ map words_of more) setup
  pub added : List NodeSetup
  pub follows : setup.nodes ≡ d.nodes ++ added
  pub small : list_all (λ n. nat_le n.node most) added ≡ true

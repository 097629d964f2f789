-- Which number an outcome tells.
use Rattle.std.proofs.Common.{◌∙◌, ◌≡◌, None, Option, Some, ap, refl, sym, ℕ}
use Rattle.at_event.specs.Outcomes.{Outcome, idle, refused_as}
use Rattle.at_node.specs.Nodes.{NodeState}
use Rattle.at_node.specs.Numbers.{DrawsBy, drawn_by}
use Rattle.at_node.specs.declared.numbers.Draw.{Draw}
use Rattle.at_ddp.specs.Datagram.{Content as Datagram}

module _ (A : Type 0) where
  -- this is drawn
  abbrev pub By : {S : Type 0} → Outcome A S → Option Draw → Type 0
  By o draw = drawn_by o.report ≡ draw

  pub refused : {S : Type 0} (s : S) (number : Option ℕ) → By (idle s (refused_as number)) None
  refused s None = refl
  refused s (Some k) = refl

  pub told_none : {S : Type 0} (o x : Outcome A S) → o ≡ x → By x None → By o None
  told_none o x is none = ap (λ (y : Outcome A _). drawn_by y.report) is ∙ none

  -- the node draws only what the datagram makes it draw
  abbrev pub IsDrawn : NodeState → Datagram → Outcome A NodeState → Type 0
  IsDrawn n d o = (draw : Draw) → drawn_by o.report ≡ Some draw → DrawsBy n d draw

  -- so it is if no number is told
  pub silent : (n : NodeState) (d : Datagram) (o : Outcome A NodeState) → By o None → IsDrawn n d o
  silent n d o none draw told = let both : None ≡ Some draw = sym none ∙ told in absurd (cc)

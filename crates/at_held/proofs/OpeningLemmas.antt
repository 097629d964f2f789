-- Why no node is opened: a text with a fault in its lines is no schedule, or no node of the setup has the number.
use Rattle.std.proofs.Common.{◌≡◌, ◌∙◌, ◌∷◌, [], ℕ, List, Bool, true, false, cond, None, Some, refl, sym, subst}
use Rattle.std.proofs.lemmas.List.{append_assoc}
use Rattle.std.specs.List.{list_any}
use Rattle.std.specs.Prelude.{◌⊎◌, ◌==◌, ◌||◌, find, map}
use Rattle.std.specs.declared.alloc.Global.{Global}
use mathlib.Core.Logic.{inl, inr}
use Rattle.at_schedule.specs.Drafts.{HoldsSetup, IsAtFault, IsCutShort, IsSchedule}
use Rattle.at_schedule.specs.Schedules.{lines_in}
use Rattle.at_setup.specs.declared.setup.NodeSetup.{NodeSetup}
use Rattle.at_setup.specs.declared.setup.Setup.{Setup}
use Rattle.at_held.specs.Openings.{is_set_up, node_of}
use Rattle.at_nodes.specs.Openings.{opening_node}
use Rattle.at_nodes.specs.Nodes.{is_numbered}

pub no_schedule : (text : List ℕ) (number : ℕ)
    → IsAtFault Global (lines_in text) number ⊎ IsCutShort Global (lines_in text) number
    → (s : Setup Global) → ¬ HoldsSetup (Some text) s
no_schedule text number (inl f) s h =
    f.never (
      f.after,
      s,
      h.0,
      subst (λ ls. IsSchedule ls s h.0)
          (f.parts ∙ sym (append_assoc f.before (f.line ∷ []) f.after)) h.1,
    )
no_schedule text number (inr f) s h = f.never s h.0 h.1

none_of : (s : Setup Global) (number : ℕ) (ns : List NodeSetup) → list_any (λ n. n.node == number) ns ≡ false
    → find (is_numbered number) (map (opening_node s) ns) ≡ None
none_of s number [] unlisted = refl
none_of s number (n ∷ ns) unlisted = go (n.node == number) (λ h. none_of s number ns h) unlisted
  where
    rest : Bool
    rest = list_any (λ m. m.node == number) ns

    go : (b : Bool) → (rest ≡ false → find (is_numbered number) (map (opening_node s) ns) ≡ None)
        → (b || rest) ≡ false
        → cond b (Some (opening_node s n)) (find (is_numbered number) (map (opening_node s) ns)) ≡ None
    go true later h = absurd (cc)
    go false later h = later h

-- no node of a number that is not set up
pub no_node : (s : Setup Global) (number : ℕ) → is_set_up s number ≡ false → node_of s number ≡ None
no_node s number unlisted = none_of s number s.nodes unlisted

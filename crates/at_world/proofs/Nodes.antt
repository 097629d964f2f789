-- The node of a number, once one node took a step.
use Rattle.std.proofs.Common.{◌≡◌, ℕ, Bool, true, false, cond, List, [], ◌∷◌, Some, refl, sym, ap, ◌∙◌}
use Rattle.std.specs.Prelude.{find, ◌==◌}
use Rattle.std.proofs.lemmas.Bool.{eqb-true}
use Rattle.at_ddp.specs.Tables.{replaced}
use Rattle.at_node.specs.Nodes.{NodeState}
use Rattle.at_nodes.specs.Nodes.{is_numbered}

-- the node of a number, once that of another or the same number changed
pub at_after : (k j : ℕ) (x n : NodeState) (nodes : List NodeState) → x.seat.number ≡ k → find (is_numbered k) nodes
    ≡ Some n → find (is_numbered j) (replaced (is_numbered k) x nodes)
    ≡ cond (k == j) (Some x) (find (is_numbered j) nodes)
at_after k j x n [] same stands = absurd (cc)
at_after k j x n (y ∷ ys) same stands = go (λ g. at_after k j x n ys same g) (y.seat.number == k) refl stands
  where
    apart : (a : ℕ) → (a == k) ≡ false → k ≡ j → (a == j) ≡ false
    apart a other is = ap (λ i. a == i) (sym is) ∙ other

    here : y.seat.number ≡ k → (b : Bool) → (k == j) ≡ b → cond (x.seat.number == j) (Some x) (find (is_numbered j) ys)
        ≡ cond b (Some x) (cond (y.seat.number == j) (Some y) (find (is_numbered j) ys))
    here is true e = ap (λ b. cond b (Some x) (find (is_numbered j) ys)) (ap (λ i. i == j) same ∙ e)
    here is false e = ap (λ b. cond b (Some x) (find (is_numbered j) ys)) (ap (λ i. i == j) same ∙ e)
        ∙ sym (ap (λ b. cond b (Some y) (find (is_numbered j) ys)) (ap (λ i. i == j) is ∙ e))

    there : (y.seat.number == k) ≡ false → (b : Bool) → (k == j) ≡ b
        → cond (y.seat.number == j) (Some y) (cond b (Some x) (find (is_numbered j) ys))
        ≡ cond b (Some x) (cond (y.seat.number == j) (Some y) (find (is_numbered j) ys))
    there other true e = ap (λ b. cond b (Some y) (Some x)) (apart y.seat.number other (eqb-true k j e))
    there other false e = refl

    go : (find (is_numbered k) ys ≡ Some n → find (is_numbered j) (replaced (is_numbered k) x ys)
        ≡ cond (k == j) (Some x) (find (is_numbered j) ys)) → (b : Bool) → (y.seat.number == k) ≡ b
        → cond b (Some y) (find (is_numbered k) ys) ≡ Some n →
        find (is_numbered j) (cond b (x ∷ ys) (y ∷ replaced (is_numbered k) x ys))
        ≡ cond (k == j) (Some x) (find (is_numbered j) (y ∷ ys))
    go ih true e g = here (eqb-true y.seat.number k e) (k == j) refl
    go ih false e g = ap (λ o. cond (y.seat.number == j) (Some y) o) (ih g) ∙ there e (k == j) refl

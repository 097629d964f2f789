-- Numbers that are compared.
use Rattle.std.proofs.Common.{◌≡◌, ℕ, ap, false, inl, inr, sym, ◌∙◌}
use Rattle.std.specs.Prelude.{◌==◌}
use Rattle.std.proofs.lemmas.Bool.{ne_eqb}
use Rattle.std.proofs.lemmas.Bool.Decides.{eqb_tells}

-- the two may change places
pub turned : (a b : ℕ) → (a == b) ≡ (b == a)
turned a b = elim (eqb_tells a b) [
  | inl same ↦ ap (λ x. a == x) (sym same.1) ∙ ap (λ x. x == a) same.1
  | inr differs ↦ differs.0 ∙ sym (ne_eqb b a (λ same. differs.1 (sym same)))
]

pub apart : (a b : ℕ) → (a == b) ≡ false → (b == a) ≡ false
apart a b differs = turned b a ∙ differs

-- `count_taken` and `count_given` at a call: what a caller passes, a `&` to the cell, a token of its lifetime and a
-- size, and what the caller gets back. Both have this contract. Assumes `Logic`.
use Rattle.refusing.proofs.Steps.{◌≡◌, ℕ, ◌^◌, ◌<◌, List, [], ◌∷◌, refl, ap, w64, Ura, Val, vunit, vint, vptr, SProp}
use Rattle.refusing.proofs.Steps.{ent, sep, guard, id⊢, Lft, Share, ftrue, fsep, flft, Memory, Routine, Logic, sem, Fun}
use Rattle.refusing.proofs.Steps.{‵, raw, ◌⊛◌, some, later, ◌$◌, ◌∵◌, !, qed, move, keep, use1, split, join, pick}
use Rattle.refusing.proofs.Steps.{fjoin, feq_i, feq_l, flt_i, check, await, updating, done, RattleType, hidden_shr}
use Rattle.refusing.proofs.Steps.{unit, usize, nothing, only, triple_of, Contract}
use types.Kit.{now as at_once}
use Rattle.std.specs.contracts.cell.Cell as cell
use Rattle.refusing.specs.contracts.count_taken as counted

abbrev Plan : RattleType
Plan = cell.the_row usize

module _ {M : Type 1} {𝓤 : Ura M} (𝓛 : Logic 𝓤) (at_mem : Memory → SProp 𝓤) (run : Routine → Fun 𝓤) where
  open 𝓛 use {H, A}

  abbrev pub Counts : Contract 𝓤
  Counts = triple_of 𝓛 counted.signature (counted.spec 𝓛 at_mem run)

  module _ (κ : Lft) (q : Share) (c : ℕ × ℕ) (n : ℕ) where
    abbrev pub at_counts : Counts.Ghost
    at_counts = (
      (
        (κ, tt),
        (q, tt),
        tt,
        (record { ref_ptr = c; now = record { value = tt } }, (n, tt)),
        (vptr c.0 c.1 ∷ [], (vint w64 n ∷ [], tt)),
      ),
      tt,
    )

    pub Counts-goes : n < 2 ^ 64
        → ent 𝓤 (sep 𝓤 (sem 𝓛 (hidden_shr Plan κ (record { value = tt }) c.0 c.1)) (A.lft κ q)) (Counts.pre at_counts)
    Counts-goes fits =
        qed 𝓛 (‵ (hidden_shr Plan κ (record { value = tt }) c.0 c.1) ∷ ‵ (flft κ q) ∷ []) ∵
        nothing ! $ flt_i ! n (2 ^ 64) fits $ feq_i ! (List Val) (vint w64 n ∷ [])
        (vint w64 n ∷ []) refl $ fjoin ! $ fjoin ! $
        move ! (1 ∷ []) $ feq_i ! (List Val) (vptr c.0 c.1 ∷ []) (vptr c.0 c.1 ∷ []) refl $ fjoin ! $ fjoin ! $
        nothing ! $ move ! (2 ∷ []) $ join ! $ join ! $ nothing ! $ move ! (1 ∷ []) $ join ! $ done !

    pub Counts-gives : (v : Val) → ent 𝓤 (Counts.post at_counts v) (H.⇛ (guard 𝓤 (v ≡ vunit) (A.lft κ q)))
    Counts-gives v =
        qed 𝓛 (raw (Counts.post at_counts v) ∷ []) ∵ updating ! $
        use1 𝓛 (later (some (λ (r : Unit {0}). ((‵ (flft κ q) ⊛ ‵ ftrue) ⊛ ‵ (unit.own_val r (v ∷ []))) ⊛ some
        (λ (ws : Unit {0} × (Unit {0} × Unit {0})). ‵ (fsep ftrue (fsep ftrue ftrue)) ⊛ ‵ ftrue)))) (id⊢ 𝓤 _) $
        await ! tt $ pick ! (λ r. split ! $ split ! $ move ! (1 ∷ []) $ feq_l ! (λ is. split ! $
        at_once ! $ check ! (ap only is) $ keep ! (0 ∷ []) $ done !))

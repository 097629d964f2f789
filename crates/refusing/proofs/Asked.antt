-- `is_refused` at a call: what its caller passes, a `&` to the cell and a token of its lifetime, and what the caller
-- gets back. Assumes `Logic`.
use Rattle.refusing.proofs.Steps.{◌≡◌, ℕ, Bool, List, [], ◌∷◌, refl, ap, Ura, Val, vbool, vptr, SProp, ent, sep, ex}
use Rattle.refusing.proofs.Steps.{guard, id⊢, Lft, Share, ftrue, fsep, flft, Memory, Routine, Logic, sem, Fun, ‵, raw}
use Rattle.refusing.proofs.Steps.{◌⊛◌, some, later, ◌$◌, ◌∵◌, !, qed, move, keep, use1, split, join, pick, fjoin, feq_i}
use Rattle.refusing.proofs.Steps.{feq_l, check, show, await, updating, done, RattleType, hidden_shr, bool, nothing}
use Rattle.refusing.proofs.Steps.{only, triple_of, Contract}
use types.Kit.{now as at_once}
use Rattle.std.specs.contracts.cell.Cell as cell
use Rattle.refusing.specs.contracts.Refusal as refusal
use Rattle.refusing.specs.contracts.is_refused as asked

abbrev Plan : RattleType
Plan = cell.the_row refusal.the_row

module _ {M : Type 1} {𝓤 : Ura M} (𝓛 : Logic 𝓤) (at_mem : Memory → SProp 𝓤) (run : Routine → Fun 𝓤) where
  open 𝓛 use {H, A}

  abbrev pub Asks : Contract 𝓤
  Asks = triple_of 𝓛 asked.signature (asked.spec 𝓛 at_mem run)

  module _ (κ : Lft) (q : Share) (c : ℕ × ℕ) where
    abbrev pub at_asks : Asks.Ghost
    at_asks = (
      (
        (κ, tt),
        (q, tt),
        tt,
        (record { ref_ptr = c; now = record { value = tt } }, tt),
        (vptr c.0 c.1 ∷ [], tt),
      ),
      tt,
    )

    -- The answer is some `bool`.
    abbrev pub Told : Val → Bool → SProp 𝓤
    Told v y = guard 𝓤 (v ≡ vbool y) (A.lft κ q)

    pub Asks-goes : ent 𝓤 (sep 𝓤 (sem 𝓛 (hidden_shr Plan κ (record { value = tt }) c.0 c.1)) (A.lft κ q))
        (Asks.pre at_asks)
    Asks-goes =
        qed 𝓛 (‵ (hidden_shr Plan κ (record { value = tt }) c.0 c.1) ∷ ‵ (flft κ q) ∷ []) ∵
        feq_i ! (List Val) (vptr c.0 c.1 ∷ []) (vptr c.0 c.1 ∷ []) refl $ fjoin ! $ nothing ! $ move !
        (1 ∷ []) $ fjoin ! $
        nothing ! $ move ! (2 ∷ []) $ join ! $ join ! $ nothing ! $ move ! (1 ∷ []) $ done !

    pub Asks-gives : (v : Val) → ent 𝓤 (Asks.post at_asks v) (H.⇛ (ex 𝓤 (Told v)))
    Asks-gives v =
        qed 𝓛 (raw (Asks.post at_asks v) ∷ []) ∵ updating ! $
        use1 𝓛 (later (some (λ (y : Bool). ((‵ (flft κ q) ⊛ ‵ ftrue) ⊛ ‵ (bool.own_val y (v ∷ []))) ⊛ some
        (λ (ws : Unit {0} × Unit {0}). ‵ (fsep ftrue ftrue) ⊛ ‵ ftrue)))) (id⊢ 𝓤 _) $
        await ! tt $ pick ! (λ y. split ! $ split ! $ move ! (1 ∷ []) $ feq_l ! (λ is. split ! $
        at_once ! $ show ! (Told v) y $ check ! (ap only is) $ keep ! (0 ∷ []) $ done !))

-- One more datagram of a node is sent.
use Rattle.std.proofs.Common.{◌≡◌, ℕ, ◌+◌, ◌<◌, List, [], ◌∷◌, ◌++◌, length, take, Some, refl, sym, ap, subst}
use Rattle.std.proofs.Common.{◌∙◌, append_assoc, append-nil}
use Rattle.std.specs.Prelude.{Result, slice_get}
use Rattle.std.proofs.lemmas.List.{take_more}
use Rattle.std.proofs.lemmas.Option.{get_or_from_slice_get}
use Rattle.at_cable.specs.declared.fault.CableFault.{CableFault}
use Rattle.at_ddp.specs.Outbox.{Posted}
use Rattle.at_drive.specs.Sendings.{Sends, fault_of}

module _ {C : Type 0} (S : C → ℕ → ℕ → List ℕ → Result (Unit {0}) CableFault → C → Type 0) (at from : ℕ) where
  and_one : (ps : List Posted) (p : Posted) (c : C) (notes : List ℕ) (mid : C) (answer : Result (Unit {0}) CableFault)
      (c' : C) → Sends S at from ps c notes mid → S mid from p.node p.bytes answer c'
      → Sends S at from (ps ++ p ∷ []) c (notes ++ fault_of at answer) c'
  and_one [] p c notes mid answer c' sent last = (
    answer,
    c',
    [],
    subst (λ m. S m from p.node p.bytes answer c') sent.1 last,
    (refl, refl),
    ap (λ l. l ++ fault_of at answer) sent.0 ∙ sym (append-nil (fault_of at answer)),
  )
  and_one (q ∷ ps) p c notes mid answer c' sent last = (
    sent.0,
    sent.1,
    sent.2 ++ fault_of at answer,
    sent.3,
    and_one ps p sent.1 sent.2 mid answer c' sent.4 last,
    ap (λ l. l ++ fault_of at answer) sent.5 ∙ append_assoc (fault_of at sent.0) sent.2 (fault_of at answer),
  )

  -- the datagram at an index follows those before it
  pub next_sent : (ps : List Posted) (index : ℕ) (c : C) (notes : List ℕ) (mid : C) (to : ℕ) (bytes : List ℕ)
      (answer : Result (Unit {0}) CableFault) (c' : C) → index < length ps →
      (p : Posted) × (slice_get ps index ≡ Some p) × (to ≡ p.node) → (p : Posted) × (slice_get ps index ≡ Some p)
      × (bytes ≡ p.bytes) →
      Sends S at from (take index ps) c notes mid → S mid from to bytes answer c' →
      Sends S at from (take (index + 1) ps) c (notes ++ fault_of at answer) c'
  next_sent ps index c notes mid to bytes answer c' within goes holds sent last =
      let p = goes.0 in
      let one : holds.0 ≡ p = let both : Some holds.0 ≡ Some p = sym holds.1 ∙ goes.1 in cc in
      let its : S mid from p.node p.bytes answer c' =
      subst (λ b. S mid from p.node b answer c') (holds.2 ∙ ap (λ (q : Posted). q.bytes) one)
      (subst (λ n. S mid from n bytes answer c') goes.2 last) in
      let more : take (index + 1) ps ≡ take index ps ++ p ∷ [] =
      take_more ps index p within ∙ ap (λ x. take index ps ++ x ∷ []) (get_or_from_slice_get ps index p p goes.1) in
      subst (λ l. Sends S at from l c (notes ++ fault_of at answer) c') (sym more)
      (and_one (take index ps) p c notes mid answer c' sent its)

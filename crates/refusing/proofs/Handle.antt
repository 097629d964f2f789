-- What both walks say of the handle behind `&self`: its type, and where its three fields lie.
use Rattle.refusing.proofs.Steps.{ℕ, ◌+◌, [], ◌∷◌, Bor, Al, α, Args, a_type, dnil, dcons, size, align, up, RefOf}
use Rattle.refusing.proofs.Steps.{bounded, param, Slot, plain}
use Rattle.refusing.specs.contracts.Refusing as refusing

module _ (Z : Al) where
  -- What the impl's code is made for: the inner allocator's type, with its methods.
  abbrev pub args : Args
  args = bounded (a_type ∷ []) (Z.row, tt) (dcons Z.d (dcons Z.drops dnil))

  abbrev pub self : Slot 2
  self = RefOf (0 ∷ []) tt (plain (λ _. refusing.the_row (param 0 Z.row))) (λ _. tt)

  abbrev pub Handle : Type 0
  Handle = Bor (refusing.the_row Z.row).Denot

  abbrev pub inner_at : Handle → ℕ × ℕ
  inner_at h = (h.ref_ptr.0, h.ref_ptr.1 + up (align (α Z)) 0)

  abbrev pub refusal_at : Handle → ℕ × ℕ
  refusal_at h = (h.ref_ptr.0, h.ref_ptr.1 + up 8 (up (align (α Z)) 0 + size (α Z)))

  abbrev pub held_at : Handle → ℕ × ℕ
  held_at h = (h.ref_ptr.0, h.ref_ptr.1 + up 8 (up 8 (up (align (α Z)) 0 + size (α Z)) + 16))

-- The machine value of a handle, and the memory behind it. Assumes `Logic`.
use Rattle.std.proofs.Common.{◌≡◌, ℕ, List, [], ◌∷◌, ◌++◌, refl, subst}
use seplogic.Ra.Ura.{Ura}
use mir.Raw.{raw as bare}
use mir.Val.{Val, vstruct, vcons, vnil, of_list}
use base.Logic.{via, id⊢, snd∗, never, never_e, guard_i}
use base.Fraction.{full_share}
use base.Fml.{ftrue}
use types.Logic.{Logic, sem}
use types.Kit.{Item, Goal, Seq, Step, step, given, ‵, ◌$◌, drop, fsplit, fjoin, fpick, fpack, feq_i, feq_l, learn, use1}
use contract.Monad.{fact_use}
use denote.RattleType.{RattleType, Valss}
use denote.Builtin.{RawPtr}
use denote.Memory.{lone}
use denote.RawPtr.{Ptr, block_ptr, null_ptr, ptr_val, lies_at, Testable}
use denote.Steps.{nothing}
use denote.Struct.Struct.{within}
use denote.Struct.Owning.{shape}
use Rattle.std.specs.Prelude.{Option}
use Rattle.std.specs.declared.option.Option.TheVariants.{None, Some}
use Rattle.std.specs.declared.alloc.Global.{Global}
use Rattle.std.specs.Box.Ownership.{box_owns}
use Rattle.std.proofs.GlobalToken.{dealloc_token-Testable}
use Rattle.libc.specs.Heap.{chunk}
use Rattle.at_held.specs.contracts.held.HeldNode as node
use Rattle.at_c.specs.Handles.{holds}
use Rattle.at_c.specs.contracts.handle.AtNode as handle

abbrev pub Held : RattleType
Held = node.the_row

abbrev pub Handle : RattleType
Handle = handle.the_row

abbrev pub word : Ptr → Val
word p = vstruct (vcons (ptr_val p) vnil)

module _ {M : Type 1} {𝓤 : Ura M} {𝓛 : Logic 𝓤} {K : Type 0} {Γ : List (Item 𝓤)} {G : Goal 𝓤 𝓛.H} where
  pub handle_out : K → (d : Handle.Denot) (vs : List Val) → (vs ≡ word d.pointer ∷ []
      → Seq K 𝓛 (‵ (holds d.pointer d.node) ∷ Γ) G) → Seq K 𝓛 (‵ (Handle.own_val d vs) ∷ Γ) G
  handle_out t d vs k = fsplit t $ fpick t (λ vss. fsplit t $ feq_l t (λ ev. fsplit t $ feq_l t (λ ep. drop t $
      k (subst (λ (ps : List Val). vs ≡ vstruct (of_list (ps ++ [])) ∷ []) ep ev))))

  pub handle_in : K → (p : Ptr) (n : Option Held.Denot) → Step K 𝓛 (‵ (Handle.own_val (record {
    pointer = p;
    node = n;
  }) (word p ∷ [])) ∷ Γ) G (‵ (holds p n) ∷ Γ) G
  handle_in t p n = step (λ s.
      nothing t $ feq_i t (List Val) (ptr_val p ∷ []) (ptr_val p ∷ []) refl $ fjoin t $
      feq_i t (List Val) (word p ∷ []) (word p ∷ []) refl $ fjoin t $
      fpack t (Valss (RawPtr ∷ [])) (within (shape handle.the_type) (p, tt) (word p ∷ [])) (ptr_val p ∷ [], tt) $
      fjoin t $ s)

  -- no node is at null, and one at a block, whose pointer may be compared with null
  pub either : K → (a : Global) (p : Ptr) (n : Option Held.Denot) → (p ≡ null_ptr → n ≡ None → Seq K 𝓛 Γ G)
      → ((b o : ℕ) (x : Held.Denot) → p ≡ block_ptr b o → n ≡ Some x → Testable (block_ptr b o)
      → Seq K 𝓛 (‵ (box_owns chunk Held (block_ptr b o) x) ∷ Γ) G)
      → Seq K 𝓛 (‵ (holds p n) ∷ Γ) G
  either t a null_ptr None none one = drop t $ none refl refl
  either t a null_ptr (Some x) none one = use1 𝓛 (given ⊥ (‵ ftrue)) (via 𝓤 (never 𝓤) (id⊢ 𝓤 _) (never_e 𝓤 _)) $
      learn t (λ z. absurd z)
  either t a (block_ptr b o) None none one = use1 𝓛 (given ⊥ (‵ ftrue)) (via 𝓤 (never 𝓤) (id⊢ 𝓤 _) (never_e 𝓤 _)) $
      learn t (λ z. absurd z)
  either t a (block_ptr b o) (Some x) none one =
      let p = block_ptr b o in let τ = bare (lone Held.mir) in
      use1 𝓛 (given (Testable p) (‵ (box_owns chunk Held p x)))
      (fact_use 𝓤 (Testable p) (via 𝓤 _ (snd∗ 𝓤 (sem 𝓛 (lies_at Held full_share p x)) (sem 𝓛 (chunk τ p)))
      (dealloc_token-Testable 𝓛 a τ p)) (guard_i 𝓤 (Testable p) _)) $
      learn t (λ e. one b o x refl refl e)

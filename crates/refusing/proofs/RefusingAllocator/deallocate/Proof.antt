-- It gives the block back to the inner allocator, and counts it. Assumes `Logic`.
use Rattle.refusing.proofs.Steps.{◌≡◌, ℕ, ◌^◌, ◌<◌, List, [], ◌∷◌, refl, w64, Al, seen, token, gives_key, Gives}
use Rattle.refusing.proofs.Steps.{at_gives, Gives-goes, Gives-Gives, Ura, Ty, Fn, Val, vunit, vint, vptr, inst_fn}
use Rattle.refusing.proofs.Steps.{SProp, ent, id⊢, never_e, Lft, Share, ftrue, ffalse, fsep, flft, froom, Memory, size}
use Rattle.refusing.proofs.Steps.{align, capped, Routine, WpFn, Tables, Logic, ◌⊑◌, ⊑_trans, Fun, fact, tables}
use Rattle.refusing.proofs.Steps.{tables_of, fm_of, WpFn-mono, Item, ‵, raw, ◌⊛◌, later, given, ◌$◌, ◌∵◌, !, qed, by}
use Rattle.refusing.proofs.Steps.{move, keep, use1, split, split3, join, learn, fsplit, fjoin, feq_i, suffices, await}
use Rattle.refusing.proofs.Steps.{done, stop, fld, addr, unit_lit, no_more, and_then, of_opd, returns, enter, alloc_all}
use Rattle.refusing.proofs.Steps.{pass_all, free_all, look_at, get, through, sets, lands_as, owns, usize, RawPtr, yes}
use Rattle.refusing.proofs.Steps.{unhide, uint_vals, uint_Tells, Ptr, block_ptr, null_ptr, ptr_val, rawptr_vals}
use Rattle.refusing.proofs.Steps.{rawptr_Tells, shr_vals, plain, types_at, heard, nothing, calls_at, Ended, Clauses}
use Rattle.refusing.proofs.Steps.{triple_of, Triple, entered, Stays, stay_dropped, walk_of, ends_at, walked}
use Rattle.refusing.proofs.Steps.{Goes-dropped, walk_Meets, use2, cited}
use Rattle.refusing.proofs.Counted.{Counts, at_counts, Counts-goes, Counts-gives}
use Rattle.refusing.proofs.Handle.{args, self, Handle, inner_at, held_at}
use Rattle.refusing.proofs.count_given.Symbol as counted_key
use Rattle.refusing.proofs.count_given.Met as counted
use Rattle.refusing.specs.contracts.RefusingAllocator.deallocate as f
use Rattle.refusing.specs.contracts.RefusingAllocator.deallocate.Key as key
use Rattle.refusing.proofs.RefusingAllocator.deallocate.Statement as stated
use Rattle.refusing.proofs.RefusingAllocator.deallocate.Code as code

module _ (Z : Al) where
  abbrev here : Fn
  here = inst_fn (args Z) code.function

  abbrev ended : Ended
  ended = f.ended Z.row Z.g Z.d Z.drops

  abbrev stayed : Stays ended.signature.params ended.kept
  stayed = (
    stay_dropped (self Z) yes,
    (
      stay_dropped (plain (λ _. RawPtr)) yes,
      (stay_dropped (plain (λ _. usize)) yes, (stay_dropped (plain (λ _. usize)) yes, tt)),
    ),
  )

module _ (Z : Al) {M : Type 1} {𝓤 : Ura M} (𝓛 : Logic 𝓤) (at_mem : Memory → SProp 𝓤) (run : Routine → Fun 𝓤)
    (𝓣 : Tables 𝓤 𝓛.H) (giving : Triple 𝓤 (𝓣.C (gives_key Z)) (Gives Z 𝓛 at_mem run))
    (counting : Triple 𝓤 (𝓣.C counted_key.name) (Counts 𝓛 at_mem run)) where
  open 𝓛 use {H}

  abbrev held : Clauses 𝓤 (ended Z)
  held = f.clauses Z.row Z.g Z.d Z.drops 𝓛 at_mem run

  module _ (κ ρ : Lft) (q s : Share) (inn : κ ⊑ ρ) (h : Handle Z) (n a : ℕ) (τ : Ty) where
    abbrev bound : Ptr → (walk_of 𝓛 (ended Z) (stayed Z) held).Ghost
    bound x = (
      (
        (κ, (ρ, tt)),
        (q, (s, tt)),
        (inn, tt),
        (h, (x, (n, (a, tt)))),
        (shr_vals h, (rawptr_vals x, (vint w64 n ∷ [], (vint w64 a ∷ [], tt)))),
      ),
      τ,
    )

    abbrev passed : Ptr → List Val
    passed x = vptr h.ref_ptr.0 h.ref_ptr.1 ∷ ptr_val x ∷ vint w64 n ∷ vint w64 a ∷ []

    abbrev Pre : Ptr → SProp 𝓤
    Pre x = (walk_of 𝓛 (ended Z) (stayed Z) held).pre (bound x)

    abbrev Post : Ptr → Val → SProp 𝓤
    Post x = (walk_of 𝓛 (ended Z) (stayed Z) held).post (bound x)

    abbrev Said : Type 0
    Said = (capped (size τ) ≡ n) × (capped (align τ) ≡ a)

    -- What comes in beside the `requires`: the tokens, and what the parameters own.
    abbrev owned_at : Ptr → Item 𝓤
    owned_at x = (‵ (flft κ q) ⊛ ‵ (flft ρ s) ⊛ ‵ ftrue) ⊛ ‵
        (owns (types_at (ended Z).signature.params (bound x).0.0) (bound x).0.3 (bound x).0.4)

    walk : n < 2 ^ 64 → a < 2 ^ 64 → (x : Ptr) → ent 𝓤 (Pre x) (WpFn 𝓤 H 𝓣.C 𝓣.Λ (here Z) (passed x) (Post x))
    -- No block lies at null.
    walk n_fits a_fits null_ptr =
        qed 𝓛 (owned_at null_ptr ∷
        (raw (fact 𝓤 (ρ ⊑ Z.row.lives)) ⊛ raw (fact 𝓤 Said) ⊛ ‵ (fsep ffalse (token Z h.now.inner τ null_ptr)))
        ∷ []) ∵
        move ! (1 ∷ []) $ split3 ! $ move ! (2 ∷ []) $ fsplit ! $ keep ! (0 ∷ []) $ by ! (never_e 𝓤 _)
    walk n_fits a_fits (block_ptr b o) =
        let x : Ptr = block_ptr b o in let i : ℕ × ℕ = inner_at Z h in let t : ℕ
        × ℕ = held_at Z h in let inner : Z.row.Denot = h.now.inner in
        let counts : (Counts 𝓛 at_mem run).Ghost = at_counts 𝓛 at_mem run κ q t n in
        let gives : (Gives Z 𝓛 at_mem run).Ghost = at_gives Z 𝓛 at_mem run κ q i inner b o n a τ in
        qed 𝓛 (owned_at x ∷ (raw (fact 𝓤 (ρ ⊑ Z.row.lives)) ⊛ raw (fact 𝓤 Said) ⊛ ‵
        (fsep (froom τ b o) (token Z inner τ x))) ∷ []) ∵
        move ! (1 ∷ []) $ split3 ! $ heard ! (ρ ⊑ Z.row.lives) (λ lives. heard ! Said (λ said. move ! (1 ∷ []) $
        split ! $ split ! $ move ! (2 ∷ []) $ fsplit ! $ fsplit ! $ move ! (1 ∷ []) $ unhide ! $ fsplit ! $ fsplit ! $
        use1 𝓛 (‵ (seen Z κ i inner)) (id⊢ 𝓤 _) $ move ! (1 ∷ []) $ fsplit ! $ move ! (1 ∷ []) $ fsplit ! $ keep !
        (3 ∷ 7 ∷ 8 ∷ 9 ∷ 0 ∷ []) $
        enter ! 𝓣.C 𝓣.Λ (here Z) (passed x) _ $ alloc_all !
        (λ l. pass_all ! refl (
          (tt, tt),
          ((tt, tt), ((tt, record { fits = n_fits }), ((tt, record { fits = a_fits }), tt))),
        ) $
        -- [the inner allocator; the token of κ; the token of ρ; the block; the count; the locals]
        sets ! (addr ! (through ! refl (fld ! refl (stop !)))) refl (tt, tt) $
        join ! $ move ! (2 ∷ []) $ fsplit ! $ move ! (1 ∷ 2 ∷ []) $ join ! $ move ! (1 ∷ 0 ∷ []) $ join ! $
        use1 𝓛 (raw ((Gives Z 𝓛 at_mem run).pre gives))
        (Gives-goes Z 𝓛 at_mem run κ q i inner (⊑_trans κ ρ Z.row.lives inn lives) b o n a τ said.0 said.1 n_fits
        a_fits) $
        calls_at ! (fm_of 𝓤 H 𝓛.laws 𝓣) (Gives Z 𝓛 at_mem run) giving gives
        (and_then ! (get ! refl)
        (and_then ! (get ! refl) (and_then ! (get ! refl) (and_then ! (get ! refl) (no_more !))))) (λ v.
        use1 𝓛 (later (given (v ≡ vunit) (‵ (flft κ q)))) (Gives-Gives Z 𝓛 at_mem run κ q i inner b o n a τ v) $ await
        ! tt $ learn ! (λ is_unit.
        lands_as ! is_unit refl (tt, tt) $ sets ! (addr ! (through ! refl (fld ! refl (stop !)))) refl
        (tt, tt) $ move ! (2 ∷ 0 ∷ []) $
        use2 𝓛 (raw ((Counts 𝓛 at_mem run).pre counts)) (Counts-goes 𝓛 at_mem run κ q t n n_fits) $
        calls_at ! (fm_of 𝓤 H 𝓛.laws 𝓣) (Counts 𝓛 at_mem run) counting counts
        (and_then ! (get ! refl) (and_then ! (get ! refl) (no_more !))) (λ w.
        use1 𝓛 (later (given (w ≡ vunit) (‵ (flft κ q)))) (Counts-gives 𝓛 at_mem run κ q t n w) $ await ! tt $ learn !
        (λ is_done.
        lands_as ! is_done refl (tt, tt) $ sets ! (of_opd ! (unit_lit !)) refl (tt, tt) $ returns !
        (look_at ! 0 refl) $ free_all ! refl $
        suffices ! _ (ends_at 𝓛 (ended Z) (stayed Z) held (bound x) vunit tt (tt, (tt, (tt, (tt, tt))))
        (tt, (tt, (tt, (tt, tt))))) $
        nothing ! $ feq_i ! (List Val) (vunit ∷ []) (vunit ∷ []) refl $ nothing ! $ nothing ! $ fjoin ! $ nothing ! $
        fjoin ! $ nothing ! $ fjoin ! $ nothing ! $ fjoin ! $ join ! $
        move ! (2 ∷ 3 ∷ []) $ join ! $ join ! $ done !)))))))

pub deallocate_spec : {M : Type 1} → stated.statement M
unfolding tables_of
deallocate_spec 𝓤 𝓛 𝓜 𝓡 wired row laws g d drops met _ =
    let Z : Al = record { row = row; laws = laws; g = g; d = d; drops = drops } in
    let 𝓣 : Tables 𝓤 𝓛.H = tables_of 𝓤 𝓛.H 𝓜 (tables 𝓤 𝓛.H 𝓜 𝓡 𝓡.env) in
    let c = f.clauses row g d drops 𝓛 𝓜.mem 𝓡.returns in
    let counting = cited 𝓤 𝓛.H _ 𝓜 𝓡 𝓡.env counted_key.name (𝓡.env counted_key.name) refl
    (counted.met 𝓤 𝓛 𝓜 𝓡 (code.calls-refusing::count_given 𝓡.env wired)) in
    let number = Goes-dropped 𝓛 2 (plain (λ _. usize)) yes (λ κs x w. refl) in
    entered 𝓤 𝓛.H (triple_of 𝓛 (f.signature row) (f.spec row g d drops 𝓛 𝓜.mem 𝓡.returns)) 𝓣.C 𝓣.Λ (key.name (args Z))
    (here Z) (code.unfolded 𝓤 𝓛.H 𝓜 𝓡 wired (row, tt) d drops)
    (walk_Meets 𝓛 (ended Z) (stayed Z) (
      Goes-dropped 𝓛 2 (self Z) yes (λ κs x w. refl),
      (Goes-dropped 𝓛 2 (plain (λ _. RawPtr)) yes (λ κs x w. refl), (number, (number, tt))),
    ) c
    (WpFn 𝓤 𝓛.H 𝓣.C 𝓣.Λ (here Z)) (WpFn-mono 𝓤 𝓛.H 𝓛.laws 𝓣 (here Z))
    (walked 𝓛 (ended Z) (stayed Z) c (WpFn 𝓤 𝓛.H 𝓣.C 𝓣.Λ (here Z))
    (λ κs. (shr_vals, (rawptr_vals, (uint_vals w64, (uint_vals w64, tt)))))
    (λ κs. ((λ h vs is. is.0), (rawptr_Tells, (uint_Tells w64, (uint_Tells w64, tt)))))
    (λ κs qs bounds a τ are. walk Z 𝓛 𝓜.mem 𝓡.returns 𝓣 (met.deallocate drops) counting κs.0 κs.1.0 qs.0 qs.1.0
    bounds.0 a.0 a.1.1.0 a.1.1.1.0 τ are.1.1.0.1 are.1.1.1.0.1 a.1.0)))

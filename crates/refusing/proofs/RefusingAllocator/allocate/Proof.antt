-- It tests whether this request is the one to refuse. If not, it counts the block that the inner allocator returns, if
-- there is one, and returns it. Assumes `Logic`.
use Rattle.refusing.proofs.Steps.{◌≡◌, ℕ, ◌^◌, ◌<◌, true, false, Bool, List, [], ◌∷◌, Ok, Err, refl, w64, Al, seen}
use Rattle.refusing.proofs.Steps.{token, block_if_ok, Answer, answer_val, Answer-typed, Answer-Ok, Answer-err, Answered}
use Rattle.refusing.proofs.Steps.{answers, takes_key, Takes, at_takes, Takes-goes, Takes-gives, after, Ura, Ty, Fn, Val}
use Rattle.refusing.proofs.Steps.{vbool, vint, vptr, inst_fn, SProp, ent, emp, id⊢, Lft, Share, ftrue, flft, Memory}
use Rattle.refusing.proofs.Steps.{size, align, capped, Routine, WpFn, Tables, Logic, sem, ◌⊑◌, ⊑_trans, Fun, fact}
use Rattle.refusing.proofs.Steps.{tables, tables_of, fm_of, WpFn-mono, Sq, prop, ‵, raw, ◌⊛◌, some, later, given}
use Rattle.refusing.proofs.Steps.{at_ret, ◌$◌, ◌∵◌, !, qed, move, keep, drop, use0, use1, use2, split, join, pick}
use Rattle.refusing.proofs.Steps.{learn, fsplit, fjoin, suffices, await, done, agg, stop, fld, addr, lit, no_more}
use Rattle.refusing.proofs.Steps.{and_then, first, branches, skips, exec, returns, returns_within, enter, alloc_all}
use Rattle.refusing.proofs.Steps.{pass_all, free_all, look_at, get, through, sets, lands_as, env, owns, usize, yes}
use Rattle.refusing.proofs.Steps.{unhide, uint_vals, uint_Tells, block_ptr, shr_vals, plain, types_at, heard, nothing}
use Rattle.refusing.proofs.Steps.{calls_at, Ended, Clauses, triple_of, Triple, entered, cited, Stays, stay_dropped}
use Rattle.refusing.proofs.Steps.{walk_of, ends_at, walked, Goes-dropped, walk_Meets, sym, subst, T, has_ty, WT}
use Rattle.refusing.proofs.Steps.{ty_unit, Body, Env, Wp, after_seq, at_return, any_q, After, front, arm_body, vrt}
use Rattle.refusing.proofs.Steps.{whole, get_tag, lands_last, switches_on, calls_at_last, of_opd, vunit}
use Rattle.refusing.proofs.Asked.{Asks, at_asks, Asks-goes, Asks-gives}
use Rattle.refusing.proofs.Counted.{Counts, at_counts, Counts-goes, Counts-gives}
use Rattle.refusing.proofs.Handle.{args, self, Handle, inner_at, refusal_at, held_at}
use Rattle.refusing.proofs.count_taken.Symbol as counted_key
use Rattle.refusing.proofs.count_taken.Met as counted
use Rattle.refusing.proofs.is_refused.Symbol as asked_key
use Rattle.refusing.proofs.is_refused.Met as asked
use Rattle.refusing.specs.contracts.RefusingAllocator.allocate as f
use Rattle.refusing.specs.contracts.RefusingAllocator.allocate.Key as key
use Rattle.refusing.proofs.RefusingAllocator.allocate.Statement as stated
use Rattle.refusing.proofs.RefusingAllocator.allocate.Code as code

module _ (Z : Al) where
  abbrev here : Fn
  here = inst_fn (args Z) code.function

  abbrev ended : Ended
  ended = f.ended Z.row Z.g Z.d Z.drops

  abbrev stayed : Stays ended.signature.params ended.kept
  stayed = (
    stay_dropped (self Z) yes,
    (stay_dropped (plain (λ _. usize)) yes, (stay_dropped (plain (λ _. usize)) yes, tt)),
  )

module _ (Z : Al) {M : Type 1} {𝓤 : Ura M} (𝓛 : Logic 𝓤) (at_mem : Memory → SProp 𝓤) (run : Routine → Fun 𝓤)
    (𝓣 : Tables 𝓤 𝓛.H) (taking : Triple 𝓤 (𝓣.C (takes_key Z)) (Takes Z 𝓛 at_mem run))
    (asking : Triple 𝓤 (𝓣.C asked_key.name) (Asks 𝓛 at_mem run))
    (counting : Triple 𝓤 (𝓣.C counted_key.name) (Counts 𝓛 at_mem run)) where
  open 𝓛 use {H}

  abbrev held : Clauses 𝓤 (ended Z)
  held = f.clauses Z.row Z.g Z.d Z.drops 𝓛 at_mem run

  module _ (κ ρ : Lft) (q s : Share) (inn : κ ⊑ ρ) (h : Handle Z) (n a : ℕ) (τ : Ty) where
    abbrev bound : (walk_of 𝓛 (ended Z) (stayed Z) held).Ghost
    bound = (
      (
        (κ, (ρ, tt)),
        (q, (s, tt)),
        (inn, tt),
        (h, (n, (a, tt))),
        (shr_vals h, (vint w64 n ∷ [], (vint w64 a ∷ [], tt))),
      ),
      τ,
    )

    abbrev passed : List Val
    passed = vptr h.ref_ptr.0 h.ref_ptr.1 ∷ vint w64 n ∷ vint w64 a ∷ []

    abbrev Pre : SProp 𝓤
    Pre = (walk_of 𝓛 (ended Z) (stayed Z) held).pre bound

    abbrev Post : Val → SProp 𝓤
    Post = (walk_of 𝓛 (ended Z) (stayed Z) held).post bound

    abbrev Said : Type 0
    Said = (capped (size τ) ≡ n) × (capped (align τ) ≡ a)

    -- The return: the block, if there is one, and the tokens go back beside the answer.
    answer : (r : Answer.Denot) (v : Val) → ent 𝓤 (emp 𝓤) (sem 𝓛 (Answer.own_val r (v ∷ [])))
        → Sq 𝓛 (‵ (block_if_ok (token Z h.now.inner) τ r) ∷ ‵ (flft κ q) ∷ (‵ (flft ρ s) ⊛ ‵ ftrue) ∷ [])
        (prop (Post v))
    answer r v made =
        suffices ! _ (ends_at 𝓛 (ended Z) (stayed Z) held bound v r (tt, (tt, (tt, tt))) (tt, (tt, (tt, tt)))) $
        use0 𝓛 (‵ (Answer.own_val r (v ∷ []))) made $ nothing ! $ nothing ! $ fjoin ! $ nothing ! $ fjoin ! $ nothing !
        $ fjoin ! $ join ! $
        move ! (2 ∷ 3 ∷ []) $ join ! $ join ! $ done !

    walk : n < 2 ^ 64 → a < 2 ^ 64 → ent 𝓤 Pre (WpFn 𝓤 H 𝓣.C 𝓣.Λ (here Z) passed Post)
    walk n_fits a_fits =
        let i : ℕ × ℕ = inner_at Z h in let c : ℕ × ℕ = refusal_at Z h in let t : ℕ
        × ℕ = held_at Z h in let inner : Z.row.Denot = h.now.inner in
        let asks : (Asks 𝓛 at_mem run).Ghost = at_asks 𝓛 at_mem run κ q c in
        let takes : (Takes Z 𝓛 at_mem run).Ghost = at_takes Z 𝓛 at_mem run κ q i inner n a τ in
        let counts : (Counts 𝓛 at_mem run).Ghost = at_counts 𝓛 at_mem run κ q t n in
        let both : Body = front (after 5 (here Z).body) in
        qed 𝓛 (((‵ (flft κ q) ⊛ ‵ (flft ρ s) ⊛ ‵ ftrue) ⊛ ‵
        (owns (types_at (ended Z).signature.params bound.0.0) bound.0.3 bound.0.4)) ∷
        (raw (fact 𝓤 (ρ ⊑ Z.row.lives)) ⊛ raw (fact 𝓤 Said)) ∷ []) ∵
        move ! (1 ∷ []) $ split ! $ heard ! (ρ ⊑ Z.row.lives) (λ lives. heard ! Said (λ said.
        split ! $ split ! $ move ! (2 ∷ []) $ fsplit ! $ fsplit ! $ move ! (1 ∷ []) $ unhide ! $ fsplit ! $ fsplit ! $
        use1 𝓛 (‵ (seen Z κ i inner)) (id⊢ 𝓤 _) $ move ! (1 ∷ []) $ fsplit ! $ move ! (1 ∷ []) $ fsplit ! $ keep !
        (2 ∷ 7 ∷ 3 ∷ 0 ∷ 8 ∷ []) $
        enter ! 𝓣.C 𝓣.Λ (here Z) passed _ $ alloc_all !
        (λ l. pass_all ! refl ((tt, tt), ((tt, record { fits = n_fits }), ((tt, record { fits = a_fits }), tt))) $
        -- [the refusal; the token of κ; the inner allocator; the count; the token of ρ; the locals]
        let En : Env 𝓤 H = env (here Z).locals l in
        let from : ℕ → After 𝓤 H =
        λ k. any_q (after_seq 𝓤 H (Wp 𝓤 H 𝓣.C 𝓣.Λ En (after k (here Z).body) (at_return 𝓤 H En Post))
        (at_return 𝓤 H En Post)) in
        sets ! (addr ! (through ! refl (fld ! refl (stop !)))) refl (tt, tt) $
        use2 𝓛 (raw ((Asks 𝓛 at_mem run).pre asks)) (Asks-goes 𝓛 at_mem run κ q c) $
        calls_at ! (fm_of 𝓤 H 𝓛.laws 𝓣) (Asks 𝓛 at_mem run) asking asks (and_then ! (get ! refl) (no_more !)) (λ u.
        use1 𝓛 (later (some (λ (y : Bool). given (u ≡ vbool y) (‵ (flft κ q)))))
        (Asks-gives 𝓛 at_mem run κ q c u) $ await ! tt $ pick ! (λ y. learn ! (λ told.
        lands_as ! told refl (tt, tt) $
        -- [the token of κ; the inner allocator; the count; the token of ρ; the locals]
        first ! $ branches ! (get ! refl)
        (λ refuses. sets ! (agg ! (no_more !)) refl (tt, tt) $ sets !
        (agg ! (and_then ! (lit ! tt) (and_then ! (get ! refl) (no_more !)))) refl (Answer-typed false 0 0) $
        returns_within ! Post refl (look_at ! 0 refl) $ free_all ! refl $ move ! (1 ∷ 2 ∷ []) $ drop ! $ drop ! $
        nothing ! $ answer (Err (record {})) (answer_val false 0 0) (Answer-err 𝓛))
        (λ grants. skips ! $ exec ! 𝓣.C 𝓣.Λ En (after 3 (here Z).body) (at_ret En Post) $ move ! (1 ∷ []) $
        sets ! (addr ! (through ! refl (fld ! refl (stop !)))) refl (tt, tt) $
        use2 𝓛 (raw ((Takes Z 𝓛 at_mem run).pre takes))
        (Takes-goes Z 𝓛 at_mem run κ q i inner (⊑_trans κ ρ Z.row.lives inn lives) n a τ said.0 said.1 n_fits
        a_fits) $
        calls_at ! (fm_of 𝓤 H 𝓛.laws 𝓣) (Takes Z 𝓛 at_mem run) taking takes
        (and_then ! (get ! refl) (and_then ! (get ! refl) (and_then ! (get ! refl) (no_more !)))) (λ v.
        use1 𝓛 (later (raw (Answered Z 𝓛 at_mem run inner τ v) ⊛ ‵ (flft κ q)))
        (Takes-gives Z 𝓛 at_mem run κ q i inner n a τ v) $ await ! tt $ split ! $
        -- [the block, if there is one; the token of κ; the count; the token of ρ; the locals]
        answers Z ! at_mem run inner τ v
        (λ b o is. fjoin ! $ lands_as ! is refl (Answer-typed true b o) $
        first ! $ switches_on ! (get_tag ! (vrt ! refl (fld ! refl (stop !))) (whole !)) $ exec ! 𝓣.C 𝓣.Λ En
        (arm_body 0 both) (from 6) $
        sets ! (addr ! (through ! refl (fld ! refl (stop !)))) refl (tt, tt) $ move ! (2 ∷ 1 ∷ []) $
        use2 𝓛 (raw ((Counts 𝓛 at_mem run).pre counts)) (Counts-goes 𝓛 at_mem run κ q t n n_fits) $
        calls_at_last ! (fm_of 𝓤 H 𝓛.laws 𝓣) (Counts 𝓛 at_mem run) counting counts
        (and_then ! (get ! refl) (and_then ! (get ! refl) (no_more !))) (λ w.
        use1 𝓛 (later (given (w ≡ vunit) (‵ (flft κ q)))) (Counts-gives 𝓛 at_mem run κ q t n w) $ await ! tt $ learn !
        (λ is_unit.
        lands_last ! refl (subst (λ (x : Val). T (has_ty ty_unit x) × WT x) (sym is_unit) (tt, tt)) $ exec ! 𝓣.C 𝓣.Λ En
        (after 6 (here Z).body) (at_ret En Post) $
        sets ! (of_opd ! (get ! refl)) refl (Answer-typed true b o) $ returns !
        (look_at ! 0 refl) $ free_all ! refl $ move ! (1 ∷ []) $
        answer (Ok (block_ptr b o)) (answer_val true b o) (Answer-Ok 𝓛 b o))))
        (λ is. lands_as ! is refl (Answer-typed false 0 0) $
        first ! $ switches_on ! (get_tag ! (vrt ! refl (fld ! refl (stop !))) (whole !)) $ exec ! 𝓣.C 𝓣.Λ En
        (arm_body 1 both) (from 6) $
        skips ! $ exec ! 𝓣.C 𝓣.Λ En (after 6 (here Z).body) (at_ret En Post) $
        sets ! (of_opd ! (get ! refl)) refl (Answer-typed false 0 0) $ returns !
        (look_at ! 0 refl) $ free_all ! refl $ move ! (1 ∷ []) $ drop ! $
        nothing ! $ answer (Err (record {})) (answer_val false 0 0) (Answer-err 𝓛))))))))))

pub allocate_spec : {M : Type 1} → stated.statement M
unfolding tables_of
allocate_spec 𝓤 𝓛 𝓜 𝓡 wired row laws g d drops met _ =
    let Z : Al = record { row = row; laws = laws; g = g; d = d; drops = drops } in
    let 𝓣 : Tables 𝓤 𝓛.H = tables_of 𝓤 𝓛.H 𝓜 (tables 𝓤 𝓛.H 𝓜 𝓡 𝓡.env) in
    let c = f.clauses row g d drops 𝓛 𝓜.mem 𝓡.returns in
    let asking = cited 𝓤 𝓛.H _ 𝓜 𝓡 𝓡.env asked_key.name (𝓡.env asked_key.name) refl
    (asked.met 𝓤 𝓛 𝓜 𝓡 (code.calls-refusing::is_refused 𝓡.env wired)) in
    let counting = cited 𝓤 𝓛.H _ 𝓜 𝓡 𝓡.env counted_key.name (𝓡.env counted_key.name) refl
    (counted.met 𝓤 𝓛 𝓜 𝓡 (code.calls-refusing::count_taken 𝓡.env wired)) in
    let number = Goes-dropped 𝓛 2 (plain (λ _. usize)) yes (λ κs x w. refl) in
    entered 𝓤 𝓛.H (triple_of 𝓛 (f.signature row) (f.spec row g d drops 𝓛 𝓜.mem 𝓡.returns)) 𝓣.C 𝓣.Λ (key.name (args Z))
    (here Z) (code.unfolded 𝓤 𝓛.H 𝓜 𝓡 wired (row, tt) d drops)
    (walk_Meets 𝓛 (ended Z) (stayed Z) (Goes-dropped 𝓛 2 (self Z) yes (λ κs x w. refl), (number, (number, tt))) c
    (WpFn 𝓤 𝓛.H 𝓣.C 𝓣.Λ (here Z)) (WpFn-mono 𝓤 𝓛.H 𝓛.laws 𝓣 (here Z))
    (walked 𝓛 (ended Z) (stayed Z) c (WpFn 𝓤 𝓛.H 𝓣.C 𝓣.Λ (here Z))
    (λ κs. (shr_vals, (uint_vals w64, (uint_vals w64, tt))))
    (λ κs. ((λ h vs is. is.0), (uint_Tells w64, (uint_Tells w64, tt))))
    (λ κs qs bounds a τ are. walk Z 𝓛 𝓜.mem 𝓡.returns 𝓣 (met.allocate drops) asking counting κs.0 κs.1.0 qs.0 qs.1.0
    bounds.0 a.0 a.1.0 a.1.1.0 τ are.1.0.1 are.1.1.0.1)))

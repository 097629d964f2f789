-- One transaction, by all that came for it: what is wanted of it, and its end.
use Rattle.std.proofs.Common.{◌≡◌, ℕ, zero, suc, ◌+◌, ◌≤◌, Bool, true, false, cond, List, [], ◌∷◌, ◌++◌, replicate}
use Rattle.std.proofs.Common.{Option, Some, None, refl, sym, ap, subst, ◌∙◌, arith}
use Rattle.std.proofs.lemmas.Bool.{true≢false}
use Rattle.std.proofs.lemmas.List.{append-nil, append_assoc}
use Rattle.at_atp_requester.specs.Answers.{is_wanted, bitmap_of, whole, with_part}
use Rattle.at_atp_frame.specs.Packets.{Packet}
use Rattle.at_atp_requester.specs.Requests.{Transaction, came, came_for, was_kept, is_finished}
use Rattle.at_atp_requester.specs.Wholes.{Came, firsts_from, firsts, after_all, NoneFinishes}
use Rattle.at_atp_requester.specs.declared.progress.RequestProgress.TheVariants.{Finished}
use Rattle.at_atp_requester.proofs.WholeLemmas.{Agree, step_wanted, step_unwanted, same_whole, same_bitmap}

pub none_came : (n place : ℕ) → Agree (replicate n None) (firsts_from place n [])
none_came zero place = tt
none_came (suc n) place = none_came n (place + 1)

module _ (A : Type 0) where
  -- the parts of a transaction after a packet
  pub parts_after : (t : Transaction) (c : Came) (b : Bool) → is_wanted t.parts c.place ≡ b
      → (came {A = A} t c.place c.part c.sts).after.parts ≡ cond b (with_part t.parts c.place c.part) t.parts
  parts_after t c true e = rw e (kept (whole (with_part t.parts c.place c.part)) c.sts)
    where
      kept : (o : Option (List Packet)) (sts : Bool)
          → (was_kept {A = A} (record t { parts = with_part t.parts c.place c.part }) sts o).after.parts
          ≡ with_part t.parts c.place c.part
      kept (Some packets) sts = refl
      kept None true = refl
      kept None false = refl
  parts_after t c false e = rw e (passed c.sts)
    where
      passed : (sts : Bool) → (came_for {A = A} t c.place c.part sts false).after.parts ≡ t.parts
      passed true = refl
      passed false = refl

  one_more : (t : Transaction) (wanted : ℕ) (seen : List Came) (c : Came) → Agree t.parts (firsts wanted seen)
      → Agree (came {A = A} t c.place c.part c.sts).after.parts (firsts wanted (seen ++ c ∷ []))
  one_more t wanted seen c h = go (is_wanted t.parts c.place) refl
    where
      go : (b : Bool) → is_wanted t.parts c.place ≡ b
          → Agree (came {A = A} t c.place c.part c.sts).after.parts (firsts wanted (seen ++ c ∷ []))
      go true e = subst (λ ps. Agree ps (firsts wanted (seen ++ c ∷ []))) (sym (parts_after t c true e))
          (step_wanted t.parts wanted 0 c.place seen c (omega arith) h e)
      go false e = subst (λ ps. Agree ps (firsts wanted (seen ++ c ∷ []))) (sym (parts_after t c false e))
          (step_unwanted t.parts wanted 0 c.place seen c (omega arith) h e)

  agrees_after : (t : Transaction) (wanted : ℕ) (seen all : List Came) → Agree t.parts (firsts wanted seen)
      → Agree (after_all A t all).parts (firsts wanted (seen ++ all))
  agrees_after t wanted seen [] h = subst (λ l. Agree t.parts (firsts wanted l)) (sym (append-nil seen)) h
  agrees_after t wanted seen (c ∷ all) h =
      let next = (came {A = A} t c.place c.part c.sts).after in
      subst (λ l. Agree (after_all A next all).parts (firsts wanted l)) (append_assoc seen (c ∷ []) all)
      (agrees_after next wanted (seen ++ c ∷ []) all (one_more t wanted seen c h))

  agrees_all : (t : Transaction) (wanted : ℕ) (all : List Came) → t.parts ≡ replicate wanted None
      → Agree (after_all A t all).parts (firsts wanted all)
  agrees_all t wanted all begins =
      agrees_after t wanted [] all (subst (λ ps. Agree ps (firsts wanted [])) (sym begins) (none_came wanted 0))

  pub wants_alike : (t : Transaction) (wanted : ℕ) (all : List Came) → t.parts ≡ replicate wanted None
      → bitmap_of (after_all A t all).parts ≡ bitmap_of (firsts wanted all)
  wants_alike t wanted all begins = same_bitmap (after_all A t all).parts (firsts wanted all)
      (agrees_all t wanted all begins)

  -- ---- the end of a transaction

  not_whole_after : (t : Transaction) (c : Came) → whole t.parts ≡ None
      → is_finished (came {A = A} t c.place c.part c.sts).step ≡ false
      → whole (came {A = A} t c.place c.part c.sts).after.parts ≡ None
  not_whole_after t c none open_ = go (is_wanted t.parts c.place) refl
    where
      kept : (o : Option (List Packet)) → whole (with_part t.parts c.place c.part) ≡ o
          → is_finished (was_kept {A = A} (record t { parts = with_part t.parts c.place c.part }) c.sts o).step ≡ false
          → o ≡ None
      kept None e h = refl
      kept (Some packets) e h = absurd (true≢false h)

      go : (b : Bool) → is_wanted t.parts c.place ≡ b → whole (came {A = A} t c.place c.part c.sts).after.parts ≡ None
      go true e = ap whole (parts_after t c true e)
          ∙ kept (whole (with_part t.parts c.place c.part)) refl
          (subst (λ b. is_finished (came_for {A = A} t c.place c.part c.sts b).step ≡ false) e open_)
      go false e = ap whole (parts_after t c false e) ∙ none

  not_whole : (t : Transaction) (all : List Came) → whole t.parts ≡ None → NoneFinishes A t all
      → whole (after_all A t all).parts ≡ None
  not_whole t [] none h = none
  not_whole t (c ∷ all) none h = not_whole (came {A = A} t c.place c.part c.sts).after all
      (not_whole_after t c none h.0) h.1

  never_whole : (wanted : ℕ) → 1 ≤ wanted → whole (replicate wanted None) ≡ None
  never_whole zero some = absurd (omega (arith, some))
  never_whole (suc n) some = refl

  -- a packet ends the transaction just if it completes the response
  pub ends_whole : (t : Transaction) (wanted : ℕ) (all : List Came) (c : Came) (packets : List Packet) → t.parts
      ≡ replicate wanted None → 1 ≤ wanted → NoneFinishes A t all →
      ((came {A = A} (after_all A t all) c.place c.part c.sts).step ≡ Finished packets
      → whole (firsts wanted (all ++ c ∷ [])) ≡ Some packets)
      × (whole (firsts wanted (all ++ c ∷ [])) ≡ Some packets
      → (came {A = A} (after_all A t all) c.place c.part c.sts).step ≡ Finished packets)
  ends_whole t wanted all c packets begins some none = go (is_wanted s.parts c.place) refl
    where
      s : Transaction
      s = after_all A t all

      agree : Agree (came {A = A} s c.place c.part c.sts).after.parts (firsts wanted (all ++ c ∷ []))
      agree = one_more s wanted all c (agrees_all t wanted all begins)

      nothing : whole s.parts ≡ None
      nothing = not_whole t all (ap whole begins ∙ never_whole wanted some) none

      passed : (sts : Bool) → (came_for {A = A} s c.place c.part sts false).step ≡ Finished packets → ⊥
      passed true e = absurd (cc)
      passed false e = absurd (cc)

      kept : (o : Option (List Packet)) (sts : Bool)
          → ((was_kept {A = A} (record s { parts = with_part s.parts c.place c.part }) sts o).step ≡ Finished packets
          → o ≡ Some packets)
          × (o ≡ Some packets → (was_kept {A = A} (record s { parts = with_part s.parts c.place c.part }) sts o).step
          ≡ Finished packets)
      kept (Some ps) sts = (
        λ e. let same : ps ≡ packets = cc in ap (λ l. Some l) same,
        λ e. let same : ps
            ≡ packets = cc in ap (λ l. Finished l) same,
      )
      kept None true = (λ e. absurd (cc), λ e. absurd (cc))
      kept None false = (λ e. absurd (cc), λ e. absurd (cc))

      go : (b : Bool) → is_wanted s.parts c.place ≡ b
          → ((came {A = A} s c.place c.part c.sts).step ≡ Finished packets → whole (firsts wanted (all ++ c ∷ []))
          ≡ Some packets)
          × (whole (firsts wanted (all ++ c ∷ [])) ≡ Some packets → (came {A = A} s c.place c.part c.sts).step
          ≡ Finished packets)
      go true e =
          let same : whole (with_part s.parts c.place c.part)
          ≡ whole (firsts wanted (all ++ c ∷ [])) = ap whole (sym (parts_after s c true e))
          ∙ same_whole (came {A = A} s c.place c.part c.sts).after.parts (firsts wanted (all ++ c ∷ [])) agree in
          let both = kept (whole (with_part s.parts c.place c.part)) c.sts in
          rw e (λ h. sym same ∙ both.0 h, λ h. both.1 (same ∙ h))
      go false e =
          let same : None ≡ whole (firsts wanted (all ++ c ∷ [])) = sym nothing
          ∙ ap whole (sym (parts_after s c false e))
          ∙ same_whole (came {A = A} s c.place c.part c.sts).after.parts (firsts wanted (all ++ c ∷ [])) agree in
          rw e (λ h. absurd (passed c.sts h), λ h. let wrong : None ≡ Some packets = same ∙ h in absurd (cc))

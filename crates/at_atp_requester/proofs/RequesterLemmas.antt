-- A transaction of a requester, from its beginning on, whatever else the requester does.
use Rattle.std.proofs.Common.{◌≡◌, ℕ, Bool, true, false, cond, List, [], ◌∷◌, ◌++◌, replicate, Option, Some, None, refl}
use Rattle.std.proofs.Common.{sym, ap, subst, ◌∙◌, arith}
use Rattle.std.specs.Prelude.{find, ◌==◌, ◌&&◌}
use Rattle.std.proofs.lemmas.Bool.{eq-eqb, eqb-true}
use Rattle.std.proofs.lemmas.List.{append-nil, append_assoc}
use Rattle.at_ddp.specs.Address.{same_address}
use Rattle.at_ddp.specs.declared.address.Address.{Address}
use Rattle.at_atp_requester.proofs.OneTransaction.{none_came}
use Rattle.at_atp_requester.specs.Answers.{AnswerPart, is_wanted, bitmap_of, whole, with_part}
use Rattle.at_atp_frame.specs.Frames.{Request, Response, Release}
use Rattle.at_atp_frame.specs.Packets.{Packet}
use Rattle.at_atp_requester.specs.Requests.{Transaction, Requests, is_of, is_numbered, has_number, next_number}
use Rattle.at_atp_requester.specs.Requests.{beginning, begun, came, came_for, was_kept, response_came, heard, retried}
use Rattle.at_atp_requester.specs.Wholes.{Came, firsts, Move, Begins, Hears, Retries, after_retry, moved, moved_all}
use Rattle.at_atp_requester.specs.Wholes.{StaysOpen, brought, arrived}
use Rattle.at_atp_requester.specs.declared.progress.RequestProgress.TheVariants.{Finished}
use Rattle.at_atp_requester.proofs.MoveLemmas.{Open, with_came, with_all, begins, retry_of_other, retry_of_it}
use Rattle.at_atp_requester.proofs.MoveLemmas.{heard_of_other, heard_of_it, found_by_asked, found_by_number}
use Rattle.at_atp_requester.proofs.OpenLemmas.{drawn_free}
use Rattle.at_atp_requester.proofs.WholeLemmas.{Agree, step_wanted, step_unwanted, same_whole, same_bitmap}

with_both : (parts : List (Option AnswerPart)) (xs ys : List Came) → with_all parts (xs ++ ys)
    ≡ with_all (with_all parts xs) ys
with_both parts [] ys = refl
with_both parts (x ∷ xs) ys = with_both (with_came parts x) xs ys

-- what was kept agrees with what came first
agree_more : (parts : List (Option AnswerPart)) (wanted : ℕ) (seen : List Came) (c : Came)
    → Agree parts (firsts wanted seen) → Agree (with_came parts c) (firsts wanted (seen ++ c ∷ []))
agree_more parts wanted seen c h = go (is_wanted parts c.place) refl
  where
    go : (b : Bool) → is_wanted parts c.place ≡ b
        → Agree (cond b (with_part parts c.place c.part) parts) (firsts wanted (seen ++ c ∷ []))
    go true e = step_wanted parts wanted 0 c.place seen c (omega arith) h e
    go false e = step_unwanted parts wanted 0 c.place seen c (omega arith) h e

agree_from : (parts : List (Option AnswerPart)) (wanted : ℕ) (seen all : List Came) → Agree parts (firsts wanted seen)
    → Agree (with_all parts all) (firsts wanted (seen ++ all))
agree_from parts wanted seen [] h = subst (λ l. Agree parts (firsts wanted l)) (sym (append-nil seen)) h
agree_from parts wanted seen (c ∷ all) h =
    subst (λ l. Agree (with_all (with_came parts c) all) (firsts wanted l)) (append_assoc seen (c ∷ []) all)
    (agree_from (with_came parts c) wanted (seen ++ c ∷ []) all (agree_more parts wanted seen c h))

agree_all : (wanted : ℕ) (all : List Came) → Agree (with_all (replicate wanted None) all) (firsts wanted all)
agree_all wanted all = agree_from (replicate wanted None) wanted [] all (none_came wanted 0)

-- ---- one move

module _ (A : Type 0) where
  -- a response under the transaction's own number
  heard_own : (r : Requests) (tid : ℕ) (to from : Address) (parts : List (Option AnswerPart)) (c : Came)
      (o : Open r tid to parts) → (b : Bool) → same_address to from ≡ b → (u : Option Transaction)
      → find (is_of tid from) r.standing ≡ u → u ≡ cond b (Some o.transaction) None →
      has_number (response_came {A = A} r (is_of tid from) c.place c.part c.sts u).after.standing tid ≡ true →
      Open (response_came {A = A} r (is_of tid from) c.place c.part c.sts u).after tid to
      (with_all parts (cond b (c ∷ []) []))
  heard_own r tid to from parts c o false same None is which open_ = o
  heard_own r tid to from parts c o false same (Some u) is which open_ = absurd (cc)
  heard_own r tid to from parts c o true same None is which open_ = absurd (cc)
  heard_own r tid to from parts c o true same (Some u) is which open_ =
      let its : u ≡ o.transaction = cc in
      let asks : same_address o.transaction.to from ≡ true = ap (λ a. same_address a from) o.asked ∙ same in
      subst (λ x. Open (response_came {A = A} r (is_of tid from) c.place c.part c.sts (Some x)).after tid to
      (with_came parts c)) (sym its)
      (heard_of_it A r tid to from parts c o asks
      (subst (λ x. has_number (response_came {A = A} r (is_of tid from) c.place c.part c.sts
      (Some x)).after.standing tid ≡ true) its open_))

  which_found : (r : Requests) (tid : ℕ) (to from : Address) (parts : List (Option AnswerPart))
      (o : Open r tid to parts)
      (b : Bool) → same_address to from ≡ b → find (is_of tid from) r.standing ≡ cond b (Some o.transaction) None
  which_found r tid to from parts o b same =
      found_by_asked A r tid to from parts o b (ap (λ a. same_address a from) o.asked ∙ same)

  hears : (r : Requests) (tid : ℕ) (to from : Address) (parts : List (Option AnswerPart)) (place : ℕ) (eom sts : Bool)
      (other : ℕ) (user bytes : List ℕ) → (b : Bool) → (tid == other) ≡ b → Open r tid to parts →
      has_number (heard {A = A} r from (Response place eom sts other user bytes)).after.standing tid ≡ true
      → Open (heard {A = A} r from (Response place eom sts other user bytes)).after tid to
      (with_all parts (brought to tid (Hears from (Response place eom sts other user bytes))))
  hears r tid to from parts place eom sts other user bytes false e o open_ =
      rw e (heard_of_other A r tid other to from parts place
      (record { eom = eom; packet = record { user = user; data_ = bytes } }) sts
      (find (is_of other from) r.standing) refl e o)
  hears r tid to from parts place eom sts other user bytes true e o open_ =
      let c : Came = record {
        place = place;
        part = record { eom = eom; packet = record { user = user; data_ = bytes } };
        sts = sts;
      } in
      let same : tid ≡ other = eqb-true tid other e in
      subst
      (λ k. has_number (heard {A = A} r from (Response place eom sts k user bytes)).after.standing tid ≡ true
      → Open (heard {A = A} r from (Response place eom sts k user bytes)).after tid to
      (with_all parts (brought to tid (Hears from (Response place eom sts k user bytes)))))
      same
      (λ h. rw (eq-eqb tid tid refl)
      (heard_own r tid to from parts c o (same_address to from) refl (find (is_of tid from) r.standing) refl
      (which_found r tid to from parts o (same_address to from) refl) h))
      open_

  retries : (r : Requests) (tid other : ℕ) (to : Address) (parts : List (Option AnswerPart)) → (b : Bool)
      → (tid == other)
      ≡ b → Open r tid to parts → has_number (after_retry r (retried r other)).standing tid ≡ true
      → Open (after_retry r (retried r other)) tid to parts
  retries r tid other to parts false e o open_ =
      retry_of_other A r tid other to parts (find (is_numbered other) r.standing) refl e o
  retries r tid other to parts true e o open_ =
      subst (λ k. has_number (after_retry r (retried r k)).standing tid ≡ true
      → Open (after_retry r (retried r k)) tid to parts) (eqb-true tid other e)
      (λ h. retry_of_it A r tid to parts o h) open_

  one_move : (r : Requests) (tid : ℕ) (to : Address) (parts : List (Option AnswerPart)) (m : Move) → Open r tid to parts
      → has_number (moved A r m).standing tid ≡ true → Open (moved A r m) tid to (with_all parts (brought to tid m))
  one_move r tid to parts (Begins at user bytes wanted xo retry) o open_ =
      begins A r tid to parts at user bytes wanted xo retry (next_number r) refl o
  one_move r tid to parts (Hears from (Request mask xo timer other user bytes)) o open_ = o
  one_move r tid to parts (Hears from (Response place eom sts other user bytes)) o open_ =
      hears r tid to from parts place eom sts other user bytes (tid == other) refl o open_
  one_move r tid to parts (Hears from (Release other)) o open_ = o
  one_move r tid to parts (Retries other) o open_ = retries r tid other to parts (tid == other) refl o open_

  all_moves : (r : Requests) (tid : ℕ) (to : Address) (parts : List (Option AnswerPart)) (ms : List Move)
      → Open r tid to parts → StaysOpen A r tid ms → Open (moved_all A r ms) tid to (with_all parts (arrived to tid ms))
  all_moves r tid to parts [] o stays = o
  all_moves r tid to parts (m ∷ ms) o stays =
      subst (λ ps. Open (moved_all A (moved A r m) ms) tid to ps)
      (sym (with_both parts (brought to tid m) (arrived to tid ms)))
      (all_moves (moved A r m) tid to (with_all parts (brought to tid m)) ms
      (one_move r tid to parts m o stays.0) stays.1)

  -- ---- from its beginning on

  opens : (r : Requests) (tid : ℕ) (to : Address) (user bytes : List ℕ) (wanted : ℕ) (xo : Bool) (retry : ℕ)
      → next_number r ≡ Some tid
      → Open (begun r (beginning tid to user bytes wanted xo retry)) tid to (replicate wanted None)
  opens r tid to user bytes wanted xo retry drawn = record {
    transaction = beginning tid to user bytes wanted xo retry;
    around = record {
      before = r.standing;
      behind = [];
      is = refl;
      none_before = drawn_free r tid drawn;
      none_behind = refl;
    };
    number = refl;
    asked = refl;
    has = refl;
  }

  open_after : (r : Requests) (tid : ℕ) (to : Address) (user bytes : List ℕ) (wanted : ℕ) (xo : Bool) (retry : ℕ)
      (ms : List Move) → next_number r ≡ Some tid
      → StaysOpen A (begun r (beginning tid to user bytes wanted xo retry)) tid ms →
      Open (moved_all A (begun r (beginning tid to user bytes wanted xo retry)) ms) tid to
      (with_all (replicate wanted None) (arrived to tid ms))
  open_after r tid to user bytes wanted xo retry ms drawn stays =
      all_moves (begun r (beginning tid to user bytes wanted xo retry)) tid to (replicate wanted None) ms
      (opens r tid to user bytes wanted xo retry drawn) stays

  pub wants_what_is_missing : (r : Requests) (tid : ℕ) (to : Address) (user bytes : List ℕ) (wanted : ℕ) (xo : Bool)
      (retry : ℕ) (ms : List Move) (t : Transaction) → next_number r ≡ Some tid →
      StaysOpen A (begun r (beginning tid to user bytes wanted xo retry)) tid ms
      → find (is_numbered tid) (moved_all A (begun r (beginning tid to user bytes wanted xo retry)) ms).standing
      ≡ Some t → bitmap_of t.parts ≡ bitmap_of (firsts wanted (arrived to tid ms))
  wants_what_is_missing r tid to user bytes wanted xo retry ms t drawn stays found =
      let o = open_after r tid to user bytes wanted xo retry ms drawn stays in
      let both : Some o.transaction
      ≡ Some t = sym (found_by_number A (moved_all A (begun r (beginning tid to user bytes wanted xo retry)) ms)
      tid to (with_all (replicate wanted None) (arrived to tid ms)) o) ∙ found in
      let same : o.transaction ≡ t = cc in
      ap (λ (x : Transaction). bitmap_of x.parts) (sym same) ∙ ap bitmap_of o.has
      ∙ same_bitmap (with_all (replicate wanted None) (arrived to tid ms)) (firsts wanted (arrived to tid ms))
      (agree_all wanted (arrived to tid ms))

  -- a packet that ends a transaction was wanted, and completes the response
  finishing : (t : Transaction) (c : Came) (packets : List Packet) → (came {A = A} t c.place c.part c.sts).step
      ≡ Finished packets → whole (with_came t.parts c) ≡ Some packets
  finishing t c packets h = go (is_wanted t.parts c.place) h
    where
      kept : (o : Option (List Packet)) (s : Bool)
          → (was_kept {A = A} (record t { parts = with_part t.parts c.place c.part }) s o).step ≡ Finished packets → o
          ≡ Some packets
      kept (Some ps) s e = let same : ps ≡ packets = cc in ap (λ l. Some l) same
      kept None true e = absurd (cc)
      kept None false e = absurd (cc)

      passed : (s : Bool) → (came_for {A = A} t c.place c.part s false).step ≡ Finished packets → ⊥
      passed true e = absurd (cc)
      passed false e = absurd (cc)

      go : (b : Bool) → (came_for {A = A} t c.place c.part c.sts b).step ≡ Finished packets
          → whole (cond b (with_part t.parts c.place c.part) t.parts) ≡ Some packets
      go true e = kept (whole (with_part t.parts c.place c.part)) c.sts e
      go false e = absurd (passed c.sts e)

  arrived_more : (to : Address) (tid : ℕ) (ms : List Move) (m : Move) → arrived to tid (ms ++ m ∷ [])
      ≡ arrived to tid ms ++ brought to tid m
  arrived_more to tid [] m = append-nil (brought to tid m)
  arrived_more to tid (x ∷ ms) m = ap (λ l. brought to tid x ++ l) (arrived_more to tid ms m)
      ∙ sym (append_assoc (brought to tid x) (arrived to tid ms) (brought to tid m))

  pub hands_up_the_whole : (r : Requests) (tid : ℕ) (to : Address) (user bytes : List ℕ) (wanted : ℕ) (xo : Bool)
      (retry : ℕ) (ms : List Move) (from : Address) (place : ℕ) (eom sts : Bool) (words data_ : List ℕ)
      (packets : List Packet) → next_number r ≡ Some tid →
      StaysOpen A (begun r (beginning tid to user bytes wanted xo retry)) tid ms →
      (heard {A = A} (moved_all A (begun r (beginning tid to user bytes wanted xo retry)) ms) from
      (Response place eom sts tid words data_)).step ≡ Finished packets →
      whole (firsts wanted (arrived to tid (ms ++ Hears from (Response place eom sts tid words data_) ∷ [])))
      ≡ Some packets
  hands_up_the_whole r tid to user bytes wanted xo retry ms from place eom sts words data_ packets drawn stays h =
      go (same_address to from) refl
    where
      now : Requests
      now = moved_all A (begun r (beginning tid to user bytes wanted xo retry)) ms

      all : List Came
      all = arrived to tid ms

      c : Came
      c = record {
        place = place;
        part = record { eom = eom; packet = record { user = words; data_ = data_ } };
        sts = sts;
      }

      o : Open now tid to (with_all (replicate wanted None) all)
      o = open_after r tid to user bytes wanted xo retry ms drawn stays

      came_last : arrived to tid (ms ++ Hears from (Response place eom sts tid words data_) ∷ [])
          ≡ all ++ cond (same_address to from) (c ∷ []) []
      came_last = arrived_more to tid ms (Hears from (Response place eom sts tid words data_))
          ∙ ap (λ b. all ++ cond (b && same_address to from) (c ∷ []) []) (eq-eqb tid tid refl)

      stepped : (u : Option Transaction) → find (is_of tid from) now.standing ≡ u
          → (response_came {A = A} now (is_of tid from) place c.part sts u).step ≡ Finished packets
      stepped u is = subst (λ x. (response_came {A = A} now (is_of tid from) place c.part sts x).step
          ≡ Finished packets) is h

      go : (b : Bool) → same_address to from ≡ b
          → whole (firsts wanted (arrived to tid (ms ++ Hears from (Response place eom sts tid words data_) ∷ [])))
          ≡ Some packets
      go false e = let wrong =
          stepped None (which_found now tid to from (with_all (replicate wanted None) all) o false e) in absurd (cc)
      go true e =
          let t = o.transaction in
          let last = came_last ∙ ap (λ b. all ++ cond b (c ∷ []) []) e in
          let ended = finishing t c packets
          (stepped (Some t) (which_found now tid to from (with_all (replicate wanted None) all) o true e)) in
          let agree = agree_more (with_all (replicate wanted None) all) wanted all c (agree_all wanted all) in
          ap (λ l. whole (firsts wanted l)) last
          ∙ sym (same_whole (with_came (with_all (replicate wanted None) all) c)
          (firsts wanted (all ++ c ∷ [])) agree) ∙ ap (λ ps. whole (with_came ps c)) (sym o.has) ∙ ended

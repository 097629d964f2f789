-- What each move of a requester does to a transaction that is open.
use Rattle.std.proofs.Common.{◌≡◌, ℕ, zero, suc, Bool, true, false, cond, List, [], ◌∷◌, ◌++◌, Option, Some, None, refl}
use Rattle.std.proofs.Common.{sym, ap, subst, ◌∙◌}
use Rattle.std.specs.Prelude.{find, option_map, ◌==◌, ◌&&◌}
use Rattle.std.proofs.lemmas.Bool.{true≢false, eq-eqb, eqb-true, ne_eqb, and_parts}
use Rattle.std.proofs.lemmas.List.{append_assoc}
use Rattle.at_ddp.specs.Address.{same_address}
use Rattle.at_ddp.specs.declared.address.Address.{Address}
use Rattle.at_atp_requester.specs.Answers.{AnswerPart, is_wanted, whole, with_part}
use Rattle.at_atp_frame.specs.Packets.{Packet}
use Rattle.at_atp_requester.specs.Requests.{Transaction, Requests, Effect, is_of, is_numbered, has_number, next_number}
use Rattle.at_atp_requester.specs.Requests.{beginning, came, came_for, was_kept, is_finished, settled, response_came}
use Rattle.at_atp_requester.specs.Requests.{retried_with, retried}
use Rattle.at_ddp.specs.Tables.{replaced, without_first}
use Rattle.at_atp_requester.proofs.OneTransaction.{parts_after}
use Rattle.at_atp_requester.specs.Wholes.{Came, Begins, begun_under, after_retry}
use Rattle.at_atp_requester.proofs.OpenLemmas.{Around, OfNumber, both_apart, cons_apart, is_there, other_replaced}
use Rattle.at_atp_requester.proofs.OpenLemmas.{other_gone, find_it, replaced_it, gone_it, drawn_free}

-- the one transaction of a number is open, asked this address, and has these parts
pub record Open (r : Requests) (tid : ℕ) (to : Address) (parts : List (Option AnswerPart)) : Type 0 where
  pub transaction : Transaction
  pub around : Around r.standing tid transaction
  pub number : transaction.tid ≡ tid
  pub asked : transaction.to ≡ to
  pub has : transaction.parts ≡ parts

-- the parts once a packet came
abbrev pub with_came : List (Option AnswerPart) → Came → List (Option AnswerPart)
with_came parts c = cond (is_wanted parts c.place) (with_part parts c.place c.part) parts

abbrev pub with_all : List (Option AnswerPart) → List Came → List (Option AnswerPart)
with_all parts [] = parts
with_all parts (c ∷ all) = with_all (with_came parts c) all

-- ---- a packet keeps number and address

module _ (A : Type 0) where
  pub kept_tid : (t : Transaction) (place : ℕ) (part : AnswerPart) (sts : Bool)
      → (came {A = A} t place part sts).after.tid ≡ t.tid
  kept_tid t place part sts = go (is_wanted t.parts place) sts
    where
      kept : (o : Option (List Packet)) (s : Bool)
          → (was_kept {A = A} (record t { parts = with_part t.parts place part }) s o).after.tid ≡ t.tid
      kept (Some packets) s = refl
      kept None true = refl
      kept None false = refl

      go : (b s : Bool) → (came_for {A = A} t place part s b).after.tid ≡ t.tid
      go true s = kept (whole (with_part t.parts place part)) s
      go false true = refl
      go false false = refl

  kept_to : (t : Transaction) (place : ℕ) (part : AnswerPart) (sts : Bool) → (came {A = A} t place part sts).after.to
      ≡ t.to
  kept_to t place part sts = go (is_wanted t.parts place) sts
    where
      kept : (o : Option (List Packet)) (s : Bool)
          → (was_kept {A = A} (record t { parts = with_part t.parts place part }) s o).after.to ≡ t.to
      kept (Some packets) s = refl
      kept None true = refl
      kept None false = refl

      go : (b s : Bool) → (came_for {A = A} t place part s b).after.to ≡ t.to
      go true s = kept (whole (with_part t.parts place part)) s
      go false true = refl
      go false false = refl

  -- ---- numbers that differ

  found_passes : (p : Transaction → Bool) (l : List Transaction) (u : Transaction) → find p l ≡ Some u → p u ≡ true
  found_passes p [] u h = absurd (cc)
  found_passes p (x ∷ l) u h = go (λ g. found_passes p l u g) (p x) refl h
    where
      go : (find p l ≡ Some u → p u ≡ true) → (b : Bool) → p x ≡ b → cond b (Some x) (find p l) ≡ Some u → p u ≡ true
      go ih true e g = let same : x ≡ u = cc in subst (λ z. p z ≡ true) same e
      go ih false e g = ih g

  apart_by : (x : Transaction) (tid other : ℕ) → (tid == other) ≡ false → x.tid ≡ other → (x.tid == tid) ≡ false
  apart_by x tid other apart is = ne_eqb x.tid tid (λ e. true≢false (sym (eq-eqb tid other (sym e ∙ is)) ∙ apart))

  -- a test for another number does not find the transaction
  misses : (p : Transaction → Bool) (t : Transaction) (tid other : ℕ)
      → ((x : Transaction) → p x ≡ true → x.tid ≡ other) → (tid == other) ≡ false → t.tid ≡ tid → p t ≡ false
  misses p t tid other of apart is = go (p t) refl
    where
      go : (b : Bool) → p t ≡ b → b ≡ false
      go true e = absurd (true≢false (sym (eq-eqb tid other (sym is ∙ of t e)) ∙ apart))
      go false e = refl

  of_is_of : (other : ℕ) (from : Address) (x : Transaction) → is_of other from x ≡ true → x.tid ≡ other
  of_is_of other from x h = let parts = and_parts (x.tid == other) (same_address x.to from) h in
      eqb-true x.tid other parts.0

  of_numbered : (other : ℕ) (x : Transaction) → is_numbered other x ≡ true → x.tid ≡ other
  of_numbered other x h = eqb-true x.tid other h

  -- ---- open, and open again

  still : (r r' : Requests) (tid : ℕ) (to : Address) (parts : List (Option AnswerPart)) → (o : Open r tid to parts)
      → Around r'.standing tid o.transaction → Open r' tid to parts
  still r r' tid to parts o around =
      record { transaction = o.transaction; around = around; number = o.number; asked = o.asked; has = o.has }

  pub begins : (r : Requests) (tid : ℕ) (to : Address) (parts : List (Option AnswerPart)) (at : Address)
      (user bytes : List ℕ) (wanted : ℕ) (xo : Bool) (retries : ℕ) (drawn : Option ℕ) → next_number r ≡ drawn
      → Open r tid to parts →
      Open (begun_under r (Begins at user bytes wanted xo retries) drawn) tid to parts
  begins r tid to parts at user bytes wanted xo retries None is o = o
  begins r tid to parts at user bytes wanted xo retries (Some k) is o =
      let a = o.around in
      let t = o.transaction in
      let new = beginning k at user bytes wanted xo retries in
      let there : has_number r.standing tid ≡ true = ap (λ l. has_number l tid) a.is
      ∙ is_there a.before a.behind t tid o.number in
      let apart : (k == tid) ≡ false =
      ne_eqb k tid (λ e. true≢false
      (sym there ∙ subst (λ i. has_number r.standing i ≡ false) e (drawn_free r k is))) in
      still r (begun_under r (Begins at user bytes wanted xo retries) (Some k)) tid to parts o (record {
        before = a.before;
        behind = a.behind ++ new ∷ [];
        is = ap (λ l. l ++ new ∷ []) a.is ∙ append_assoc a.before (t ∷ a.behind) (new ∷ []);
        none_before = a.none_before;
        none_behind = both_apart a.behind (new ∷ []) tid a.none_behind (cons_apart new [] tid apart refl);
      })

  -- something done to the transaction of another number
  replaces : (r r' : Requests) (tid other : ℕ) (to : Address) (parts : List (Option AnswerPart)) (p : Transaction
      → Bool)
      (y : Transaction) → ((x : Transaction) → p x ≡ true → x.tid ≡ other) → (tid == other) ≡ false → y.tid ≡ other →
      r'.standing ≡ replaced p y r.standing → Open r tid to parts → Open r' tid to parts
  replaces r r' tid other to parts p y of apart number is o =
      let a = o.around in
      let t = o.transaction in
      let moved_on = other_replaced p y t a.before a.behind tid (misses p t tid other of apart o.number)
      (apart_by y tid other apart number) a.none_before a.none_behind in
      still r r' tid to parts o (subst (λ l. Around l tid t) (sym (is ∙ ap (replaced p y) a.is)) moved_on)

  closes : (r r' : Requests) (tid other : ℕ) (to : Address) (parts : List (Option AnswerPart)) (p : Transaction → Bool)
      → ((x : Transaction) → p x ≡ true → x.tid ≡ other) → (tid == other) ≡ false →
      r'.standing ≡ without_first p r.standing → Open r tid to parts → Open r' tid to parts
  closes r r' tid other to parts p of apart is o =
      let a = o.around in
      let t = o.transaction in
      let moved_on = other_gone p t a.before a.behind tid (misses p t tid other of apart o.number) a.none_before
      a.none_behind in
      still r r' tid to parts o (subst (λ l. Around l tid t) (sym (is ∙ ap (without_first p) a.is)) moved_on)

  -- ---- retries

  pub retry_of_other : (r : Requests) (tid other : ℕ) (to : Address) (parts : List (Option AnswerPart))
      (u : Option Transaction) → find (is_numbered other) r.standing ≡ u → (tid == other) ≡ false
      → Open r tid to parts →
      Open (after_retry r (option_map (λ t. retried_with r other t t.retries) u)) tid to parts
  retry_of_other r tid other to parts None is apart o = o
  retry_of_other r tid other to parts (Some u) is apart o = go u.retries
    where
      go : (n : ℕ) → Open (retried_with r other u n).after tid to parts
      go zero = closes r (retried_with r other u zero).after tid other to parts (is_numbered other)
          (of_numbered other) apart refl o
      go (suc n) = replaces r (retried_with r other u (suc n)).after tid other to parts (is_numbered other)
          (record u { retries = n }) (of_numbered other) apart
          (of_numbered other u (found_passes (is_numbered other) r.standing u is)) refl o

  of_number : (tid : ℕ) → OfNumber (is_numbered tid) tid
  of_number tid x h = h

  -- a transaction that was closed is not open
  not_closed : (r r' : Requests) (tid : ℕ) (to : Address) (parts : List (Option AnswerPart)) (p : Transaction → Bool)
      (o : Open r tid to parts) → OfNumber p tid → p o.transaction ≡ true → r'.standing ≡ without_first p r.standing
      → has_number r'.standing tid ≡ true → ⊥
  not_closed r r' tid to parts p o of passes is open_ =
      let a = o.around in
      let rest : r'.standing ≡ a.before ++ a.behind = is ∙ ap (without_first p) a.is
      ∙ gone_it p a.before a.behind o.transaction tid of passes a.none_before in
      true≢false (sym open_ ∙ ap (λ l. has_number l tid) rest
      ∙ both_apart a.before a.behind tid a.none_before a.none_behind)

  -- another transaction in its place
  becomes : (r r' : Requests) (tid : ℕ) (to : Address) (parts : List (Option AnswerPart)) (p : Transaction → Bool)
      (o : Open r tid to parts) (y : Transaction) (parts' : List (Option AnswerPart)) → OfNumber p tid → p o.transaction
      ≡ true →
      r'.standing ≡ replaced p y r.standing → y.tid ≡ o.transaction.tid → y.to ≡ o.transaction.to → y.parts ≡ parts'
      → Open r' tid to parts'
  becomes r r' tid to parts p o y parts' of passes is number asked has =
      let a = o.around in
      record {
        transaction = y;
        around = record {
          before = a.before;
          behind = a.behind;
          is = is ∙ ap (replaced p y) a.is
              ∙ replaced_it p y a.before a.behind o.transaction tid of passes a.none_before;
          none_before = a.none_before;
          none_behind = a.none_behind;
        };
        number = number ∙ o.number;
        asked = asked ∙ o.asked;
        has = has;
      }

  pub found_by_number : (r : Requests) (tid : ℕ) (to : Address) (parts : List (Option AnswerPart))
      (o : Open r tid to parts) → find (is_numbered tid) r.standing ≡ Some o.transaction
  found_by_number r tid to parts o =
      let a = o.around in
      ap (find (is_numbered tid)) a.is
      ∙ find_it (is_numbered tid) a.before a.behind o.transaction tid (of_number tid) a.none_before a.none_behind
      ∙ ap (λ b. cond b (Some o.transaction) None) (eq-eqb o.transaction.tid tid o.number)

  pub retry_of_it : (r : Requests) (tid : ℕ) (to : Address) (parts : List (Option AnswerPart)) (o : Open r tid to parts)
      → has_number (after_retry r (retried r tid)).standing tid ≡ true
      → Open (after_retry r (retried r tid)) tid to parts
  retry_of_it r tid to parts o open_ =
      let found = found_by_number r tid to parts o in
      subst (λ u. Open (after_retry r (option_map (λ t. retried_with r tid t t.retries) u)) tid to parts) (sym found)
      (go o.transaction.retries
      (subst (λ u. has_number (after_retry r (option_map (λ t. retried_with r tid t t.retries) u)).standing tid
      ≡ true) found open_))
    where
      passes : is_numbered tid o.transaction ≡ true
      passes = eq-eqb o.transaction.tid tid o.number

      go : (n : ℕ) → has_number (retried_with r tid o.transaction n).after.standing tid ≡ true
          → Open (retried_with r tid o.transaction n).after tid to parts
      go zero h = absurd (not_closed r (retried_with r tid o.transaction zero).after tid to parts (is_numbered tid) o
          (of_number tid) passes refl h)
      go (suc n) h = becomes r (retried_with r tid o.transaction (suc n)).after tid to parts (is_numbered tid) o
          (record o.transaction { retries = n }) parts (of_number tid) passes refl refl refl o.has

  -- ---- responses

  of_asked : (tid : ℕ) (from : Address) → OfNumber (is_of tid from) tid
  of_asked tid from x h = rw h refl

  pub heard_of_other : (r : Requests) (tid other : ℕ) (to from : Address) (parts : List (Option AnswerPart)) (place : ℕ)
      (part : AnswerPart) (sts : Bool) (u : Option Transaction) → find (is_of other from) r.standing ≡ u
      → (tid == other)
      ≡ false → Open r tid to parts →
      Open (response_came {A = A} r (is_of other from) place part sts u).after tid to parts
  heard_of_other r tid other to from parts place part sts None is apart o = o
  heard_of_other r tid other to from parts place part sts (Some u) is apart o = go (is_finished e.step) refl
    where
      e : Effect A
      e = came u place part sts

      number : e.after.tid ≡ other
      number = kept_tid u place part sts ∙ of_is_of other from u (found_passes (is_of other from) r.standing u is)

      go : (b : Bool) → is_finished e.step ≡ b → Open (settled r (is_of other from) e).after tid to parts
      go true f = closes r (settled r (is_of other from) e).after tid other to parts (is_of other from)
          (of_is_of other from) apart
          (ap (λ b. cond b (without_first (is_of other from) r.standing)
          (replaced (is_of other from) e.after r.standing)) f) o
      go false f = replaces r (settled r (is_of other from) e).after tid other to parts (is_of other from) e.after
          (of_is_of other from) apart number
          (ap (λ b. cond b (without_first (is_of other from) r.standing)
          (replaced (is_of other from) e.after r.standing)) f) o

  pub found_by_asked : (r : Requests) (tid : ℕ) (to from : Address) (parts : List (Option AnswerPart))
      (o : Open r tid to parts) (b : Bool) → same_address o.transaction.to from ≡ b → find (is_of tid from) r.standing
      ≡ cond b (Some o.transaction) None
  found_by_asked r tid to from parts o b same =
      let a = o.around in
      ap (find (is_of tid from)) a.is
      ∙ find_it (is_of tid from) a.before a.behind o.transaction tid (of_asked tid from) a.none_before a.none_behind
      ∙ ap (λ c. cond (c && same_address o.transaction.to from) (Some o.transaction) None)
      (eq-eqb o.transaction.tid tid o.number) ∙ ap (λ c. cond c (Some o.transaction) None) same

  pub heard_of_it : (r : Requests) (tid : ℕ) (to from : Address) (parts : List (Option AnswerPart)) (c : Came)
      (o : Open r tid to parts) → same_address o.transaction.to from ≡ true →
      has_number (settled {A = A} r (is_of tid from) (came o.transaction c.place c.part c.sts)).after.standing tid
      ≡ true → Open (settled {A = A} r (is_of tid from) (came o.transaction c.place c.part c.sts)).after tid to
      (with_came parts c)
  heard_of_it r tid to from parts c o same open_ = go (is_finished e.step) refl
    where
      t : Transaction
      t = o.transaction

      e : Effect A
      e = came t c.place c.part c.sts

      passes : is_of tid from t ≡ true
      passes = rw (eq-eqb t.tid tid o.number, same) refl

      standing : (b : Bool) → is_finished e.step ≡ b → (settled r (is_of tid from) e).after.standing
          ≡ cond b (without_first (is_of tid from) r.standing) (replaced (is_of tid from) e.after r.standing)
      standing b f = ap (λ b. cond b (without_first (is_of tid from) r.standing)
          (replaced (is_of tid from) e.after r.standing)) f

      go : (b : Bool) → is_finished e.step ≡ b → Open (settled r (is_of tid from) e).after tid to (with_came parts c)
      go true f = absurd (not_closed r (settled r (is_of tid from) e).after tid to parts (is_of tid from) o
          (of_asked tid from) passes (standing true f) open_)
      go false f = becomes r (settled r (is_of tid from) e).after tid to parts (is_of tid from) o e.after
          (with_came parts c) (of_asked tid from) passes (standing false f) (kept_tid t c.place c.part c.sts)
          (kept_to t c.place c.part c.sts)
          (parts_after A t c (is_wanted t.parts c.place) refl ∙ ap (λ ps. with_came ps c) o.has)

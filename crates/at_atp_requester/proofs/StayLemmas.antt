-- Numbers that stay open.
use Rattle.std.proofs.Common.{◌≡◌, ℕ, zero, suc, Bool, true, false, cond, List, [], ◌∷◌, ◌++◌, Option, Some, None, refl}
use Rattle.std.proofs.Common.{sym, ap, subst, ◌∙◌}
use Rattle.std.specs.Prelude.{find, option_map, ◌==◌, ◌||◌}
use Rattle.std.specs.List.{AllByRecursion}
use Rattle.std.proofs.lemmas.Bool.{true≢false, and_parts, eqb-true}
use Rattle.at_ddp.specs.Address.{same_address}
use Rattle.at_ddp.specs.declared.address.Address.{Address}
use Rattle.at_atp_frame.specs.Frames.{Content, Request, Response, Release, number_of}
use Rattle.at_atp_requester.specs.Requests.{Transaction, Requests, Effect, Retried, has_number, is_numbered, is_of}
use Rattle.at_atp_requester.specs.Requests.{begun, came, is_finished, response_came, heard, retried_with, retried}
use Rattle.at_ddp.specs.Tables.{replaced, without_first}
use Rattle.at_atp_requester.specs.declared.progress.Retry.TheVariants.{Failed}
use Rattle.at_ddp.proofs.Alls.{all_found}
use Rattle.at_atp_requester.proofs.MoveLemmas.{kept_tid}
use Rattle.at_atp_requester.proofs.OpenLemmas.{is_there}

or_true : (a b : Bool) → a ≡ true → (a || b) ≡ true
or_true a b h = rw h refl

or_cases : (a b : Bool) → (a || b) ≡ true → (a ≡ false → b ≡ true)
or_cases true b h = λ no. absurd (true≢false no)
or_cases false b h = λ no. h

-- a number is in the list, and stays there as long as no entry of it goes
stays_replaced : (p : Transaction → Bool) (y : Transaction) (ts : List Transaction) (tid : ℕ)
    → ((t : Transaction) → p t ≡ true → y.tid ≡ t.tid) → has_number ts tid ≡ true → has_number (replaced p y ts) tid
    ≡ true
stays_replaced p y [] tid same h = h
stays_replaced p y (t ∷ ts) tid same h = go (λ g. stays_replaced p y ts tid same g) (p t) refl
  where
    here : p t ≡ true → (b : Bool) → (t.tid == tid) ≡ b → (b || has_number ts tid) ≡ true
        → ((y.tid == tid) || has_number ts tid) ≡ true
    here is true e g = or_true (y.tid == tid) (has_number ts tid) (ap (λ k. k == tid) (same t is) ∙ e)
    here is false e g = rw (ap (λ k. k == tid) (same t is) ∙ e) g

    later : (has_number ts tid ≡ true → has_number (replaced p y ts) tid ≡ true) → (b : Bool)
        → (b || has_number ts tid) ≡ true → (b || has_number (replaced p y ts) tid) ≡ true
    later ih true g = refl
    later ih false g = ih g

    go : (has_number ts tid ≡ true → has_number (replaced p y ts) tid ≡ true) → (b : Bool) → p t ≡ b
        → has_number (cond b (y ∷ ts) (t ∷ replaced p y ts)) tid ≡ true
    go ih true e = here e (t.tid == tid) refl h
    go ih false e = later ih (t.tid == tid) h

stays_without : (p : Transaction → Bool) (ts : List Transaction) (tid : ℕ)
    → ((t : Transaction) → p t ≡ true → (t.tid == tid) ≡ false) → has_number ts tid ≡ true
    → has_number (without_first p ts) tid ≡ true
stays_without p [] tid other h = h
stays_without p (t ∷ ts) tid other h = go (λ g. stays_without p ts tid other g) (p t) refl
  where
    later : (has_number ts tid ≡ true → has_number (without_first p ts) tid ≡ true) → (b : Bool)
        → (b || has_number ts tid) ≡ true → (b || has_number (without_first p ts) tid) ≡ true
    later ih true g = refl
    later ih false g = ih g

    go : (has_number ts tid ≡ true → has_number (without_first p ts) tid ≡ true) → (b : Bool) → p t ≡ b
        → has_number (cond b ts (t ∷ without_first p ts)) tid ≡ true
    go ih true e = or_cases (t.tid == tid) (has_number ts tid) h (other t e)
    go ih false e = later ih (t.tid == tid) h

pub all_units : (ts : List Transaction) → AllByRecursion (λ (x : Transaction). Unit {0}) ts
all_units [] = tt
all_units (t ∷ ts) = (tt, all_units ts)

pub of_number : (k : ℕ) (from : Address) (t : Transaction) → is_of k from t ≡ true → t.tid ≡ k
of_number k from t h = eqb-true t.tid k (and_parts (t.tid == k) (same_address t.to from) h).0

apart_from : (a b tid : ℕ) → a ≡ b → (b == tid) ≡ false → (a == tid) ≡ false
apart_from a b tid same h = ap (λ k. k == tid) same ∙ h

pub heard_stays : (A : Type 0) (r : Requests) (from : Address) (f : Content) (tid : ℕ) → has_number r.standing tid
    ≡ true → (is_finished (heard {A = A} r from f).step ≡ true → (number_of f == tid) ≡ false)
    → has_number (heard {A = A} r from f).after.standing tid ≡ true
heard_stays A r from (Request mask xo timer k user bytes) tid h other = h
heard_stays A r from (Release k) tid h other = h
heard_stays A r from (Response place eom sts k user bytes) tid h other = go (find (is_of k from) r.standing) refl other
  where
    settles : (t : Transaction) (e : Effect A) → t.tid ≡ k → (e.after).tid ≡ t.tid → (b : Bool)
        → (b ≡ true → (k == tid) ≡ false)
        → has_number (cond b (without_first (is_of k from) r.standing) (replaced (is_of k from) e.after r.standing))
        tid ≡ true
    settles t e numbered same true away =
        stays_without (is_of k from) r.standing tid
        (λ x is. apart_from x.tid k tid (of_number k from x is) (away refl)) h
    settles t e numbered same false away = stays_replaced (is_of k from) e.after r.standing tid
        (λ x is. same ∙ numbered ∙ sym (of_number k from x is)) h

    go : (o : Option Transaction) → find (is_of k from) r.standing ≡ o
        → (is_finished (response_came {A = A} r (is_of k from) place
        (record { eom = eom; packet = record { user = user; data_ = bytes } }) sts o).step ≡ true → (k == tid) ≡ false)
        →
        has_number (response_came {A = A} r (is_of k from) place
        (record { eom = eom; packet = record { user = user; data_ = bytes } }) sts o).after.standing tid ≡ true
    go None e away = h
    go (Some t) e away =
        let found = all_found (λ (x : Transaction). Unit {0}) (is_of k from) r.standing t (all_units r.standing) e in
        settles t (came {A = A} t place (record { eom = eom; packet = record { user = user; data_ = bytes } }) sts)
        (of_number k from t found.1)
        (kept_tid A t place (record { eom = eom; packet = record { user = user; data_ = bytes } }) sts)
        (is_finished (came {A = A} t place (record { eom = eom; packet = record { user = user; data_ = bytes } })
        sts).step) away

pub retried_stays : (r : Requests) (other tid : ℕ) (e : Retried) → retried r other ≡ Some e → has_number r.standing tid
    ≡ true → (e.step ≡ Failed → (other == tid) ≡ false) → has_number (e.after).standing tid ≡ true
retried_stays r other tid e is h away = go (find (is_numbered other) r.standing) refl is
  where
    retry : (t : Transaction) (n : ℕ) → t.tid ≡ other
        → ((retried_with r other t n).step ≡ Failed → (other == tid) ≡ false)
        → has_number ((retried_with r other t n).after).standing tid ≡ true
    retry t zero numbered apart =
        stays_without (is_numbered other) r.standing tid
        (λ x p. apart_from x.tid other tid (eqb-true x.tid other p) (apart refl)) h
    retry t (suc n) numbered apart = stays_replaced (is_numbered other) (record t { retries = n }) r.standing tid
        (λ x p. numbered ∙ sym (eqb-true x.tid other p)) h

    go : (o : Option Transaction) → find (is_numbered other) r.standing ≡ o
        → option_map (λ (t : Transaction). retried_with r other t t.retries) o ≡ Some e
        → has_number (e.after).standing tid ≡ true
    go None p g = absurd (cc)
    go (Some t) p g =
        let same : retried_with r other t t.retries ≡ e = cc in
        let found = all_found (λ (x : Transaction). Unit {0}) (is_numbered other) r.standing t
        (all_units r.standing) p in
        subst (λ (x : Retried). has_number (x.after).standing tid ≡ true) same
        (retry t t.retries (eqb-true t.tid other found.1)
        (λ failed. away (ap (λ (x : Retried). x.step) (sym same) ∙ failed)))

-- a transaction that begins comes after those that are open
pub opens_number : (r : Requests) (t : Transaction) → has_number (begun r t).standing t.tid ≡ true
opens_number r t = is_there r.standing [] t t.tid refl

stays_before : (ts : List Transaction) (t : Transaction) (tid : ℕ) → has_number ts tid ≡ true
    → has_number (ts ++ t ∷ []) tid ≡ true
stays_before [] t tid h = absurd (true≢false (sym h))
stays_before (x ∷ ts) t tid h = go (λ g. stays_before ts t tid g) (x.tid == tid) h
  where
    go : (has_number ts tid ≡ true → has_number (ts ++ t ∷ []) tid ≡ true) → (b : Bool) → (b || has_number ts tid)
        ≡ true → (b || has_number (ts ++ t ∷ []) tid) ≡ true
    go ih true g = refl
    go ih false g = ih g

pub begun_stays : (r : Requests) (t : Transaction) (tid : ℕ) → has_number r.standing tid ≡ true
    → has_number (begun r t).standing tid ≡ true
begun_stays r t tid h = stays_before r.standing t tid h

-- The numbers of a requester differ from each other.
use Rattle.std.proofs.Common.{◌≡◌, ℕ, zero, suc, ◌+◌, ◌<◌, Bool, true, false, cond, List, [], ◌∷◌, ◌++◌, length}
use Rattle.std.proofs.Common.{set, Option, Some, None, refl, sym, ap, subst, ◌∙◌, arith}
use Rattle.std.specs.Prelude.{find, remove, option_map, nat_lt, ◌==◌, ◌||◌}
use Rattle.std.proofs.lemmas.Bool.{eqb-true}
use Rattle.std.proofs.lemmas.Bool.Decides.{nat_tests}
use Rattle.std.proofs.lemmas.List.{length-append}
use Rattle.at_ddp.specs.declared.address.Address.{Address}
use Rattle.at_ddp.specs.Tables.{replaced, without_first}
use Rattle.at_ddp.proofs.Alls.{all_found}
use Rattle.at_ddp.proofs.TableLemmas.{Found}
use Rattle.at_ddp.proofs.CountLemmas.{length_without, length_replaced}
use Rattle.at_atp_frame.specs.Frames.{Content, Request, Response, Release}
use Rattle.at_atp_requester.specs.Requests.{Transaction, Requests, Effect, Retried, NumbersDiffer, IsRequester}
use Rattle.at_atp_requester.specs.Requests.{has_number, is_numbered, is_of, no_requests, next_number, draw_from}
use Rattle.at_atp_requester.specs.Requests.{beginning, begun, came, is_finished, response_came, heard, retried_with}
use Rattle.at_atp_requester.specs.Requests.{retried}
use Rattle.at_atp_requester.specs.Wholes.{Move, Begins, Hears, Retries, begun_under, after_retry, moved}
use Rattle.at_atp_requester.proofs.OpenLemmas.{head_apart, tail_apart, cons_apart, both_apart, without_apart}
use Rattle.at_atp_requester.proofs.OpenLemmas.{drawn_free}
use Rattle.at_atp_requester.proofs.MoveLemmas.{kept_tid}
use Rattle.at_atp_requester.proofs.StayLemmas.{all_units, of_number}
use Rattle.at_ddp.proofs.EqualLemmas.{apart}

differ_append : (ts : List Transaction) (t : Transaction) → NumbersDiffer ts → has_number ts t.tid ≡ false
    → NumbersDiffer (ts ++ t ∷ [])
differ_append [] t h new = (refl, tt)
differ_append (x ∷ ts) t h new = (
  both_apart ts (t ∷ []) x.tid h.0 (cons_apart t [] x.tid (apart x.tid t.tid (head_apart x ts t.tid new)) refl),
  differ_append ts t h.1 (tail_apart x ts t.tid new),
)

differ_without : (p : Transaction → Bool) (ts : List Transaction) → NumbersDiffer ts
    → NumbersDiffer (without_first p ts)
differ_without p [] h = tt
differ_without p (x ∷ ts) h = go (differ_without p ts h.1) (p x)
  where
    go : NumbersDiffer (without_first p ts) → (b : Bool) → NumbersDiffer (cond b ts (x ∷ without_first p ts))
    go ih true = h.1
    go ih false = (without_apart p ts x.tid h.0, ih)

-- the entries that pass have the number of the one that takes their place
abbrev pub SameNumber : (Transaction → Bool) → Transaction → Type 0
SameNumber p y = (t : Transaction) → p t ≡ true → y.tid ≡ t.tid

numbers_replaced : (p : Transaction → Bool) (y : Transaction) (ts : List Transaction) (k : ℕ) → SameNumber p y
    → has_number (replaced p y ts) k ≡ has_number ts k
numbers_replaced p y [] k same = refl
numbers_replaced p y (x ∷ ts) k same = go (numbers_replaced p y ts k same) (p x) refl
  where
    go : has_number (replaced p y ts) k ≡ has_number ts k → (b : Bool) → p x ≡ b
        → has_number (cond b (y ∷ ts) (x ∷ replaced p y ts)) k ≡ has_number (x ∷ ts) k
    go ih true e = ap (λ n. (n == k) || has_number ts k) (same x e)
    go ih false e = ap (λ b. (x.tid == k) || b) ih

differ_replaced : (p : Transaction → Bool) (y : Transaction) (ts : List Transaction) → SameNumber p y
    → NumbersDiffer ts → NumbersDiffer (replaced p y ts)
differ_replaced p y [] same h = tt
differ_replaced p y (x ∷ ts) same h = go (differ_replaced p y ts same h.1) (p x) refl
  where
    go : NumbersDiffer (replaced p y ts) → (b : Bool) → p x ≡ b → NumbersDiffer (cond b (y ∷ ts) (x ∷ replaced p y ts))
    go ih true e = (subst (λ n. has_number ts n ≡ false) (sym (same x e)) h.0, h.1)
    go ih false e = (numbers_replaced p y ts x.tid same ∙ h.0, ih)

remove_apart : (ts : List Transaction) (i k : ℕ) → has_number ts k ≡ false → has_number (remove ts i) k ≡ false
remove_apart [] zero k h = refl
remove_apart [] (suc i) k h = refl
remove_apart (x ∷ ts) zero k h = tail_apart x ts k h
remove_apart (x ∷ ts) (suc i) k h = cons_apart x (remove ts i) k (head_apart x ts k h)
    (remove_apart ts i k (tail_apart x ts k h))

differ_remove : (ts : List Transaction) (i : ℕ) → NumbersDiffer ts → NumbersDiffer (remove ts i)
differ_remove [] zero h = tt
differ_remove [] (suc i) h = tt
differ_remove (x ∷ ts) zero h = h.1
differ_remove (x ∷ ts) (suc i) h = (remove_apart ts i x.tid h.0, differ_remove ts i h.1)

length_remove : (ts : List Transaction) (i : ℕ) → i < length ts → length (remove ts i) + 1 ≡ length ts
length_remove [] i h = absurd (omega (arith, h))
length_remove (x ∷ ts) zero h = omega arith
length_remove (x ∷ ts) (suc i) h = let rest = length_remove ts i (omega (arith, h)) in omega (arith, rest)

-- ---- what each call leaves

pub none_lawful : IsRequester no_requests
none_lawful = record { few = omega arith; next_fits = omega arith; differ = tt }

pub drawn_few : (r : Requests) (k : ℕ) → next_number r ≡ Some k → length r.standing < 32
drawn_few r k h = go (nat_lt (length r.standing) 32) refl h
  where
    go : (b : Bool) → nat_lt (length r.standing) 32 ≡ b
        → cond b (draw_from (length r.standing + 1) r.next r.standing) None ≡ Some k → length r.standing < 32
    go true e g = grind (arith, nat_tests, e)
    go false e g = absurd (cc)

pub begun_lawful : (r : Requests) (t : Transaction) → next_number r ≡ Some t.tid → IsRequester r
    → IsRequester (begun r t)
begun_lawful r t drawn h =
    let few = drawn_few r t.tid drawn in
    record {
      few = omega (arith, few, length-append r.standing (t ∷ []));
      next_fits = omega arith;
      differ = differ_append r.standing t h.differ (drawn_free r t.tid drawn);
    }

pub replaced_lawful : (r : Requests) (p : Transaction → Bool) (y : Transaction) → SameNumber p y → IsRequester r
    → IsRequester (record r { standing = replaced p y r.standing })
replaced_lawful r p y same h =
    let few = h.few in
    record {
      few = omega (arith, few, length_replaced p y r.standing);
      next_fits = h.next_fits;
      differ = differ_replaced p y r.standing same h.differ;
    }

pub without_lawful : (r : Requests) (p : Transaction → Bool) → IsRequester r
    → IsRequester (record r { standing = without_first p r.standing })
without_lawful r p h =
    let few = h.few in
    record {
      few = omega (arith, few, length_without p r.standing);
      next_fits = h.next_fits;
      differ = differ_without p r.standing h.differ;
    }

pub heard_lawful : (A : Type 0) (r : Requests) (from : Address) (f : Content) → IsRequester r
    → IsRequester (heard {A = A} r from f).after
heard_lawful A r from (Request mask xo timer k user bytes) h = h
heard_lawful A r from (Release k) h = h
heard_lawful A r from (Response place eom sts k user bytes) h = go (find (is_of k from) r.standing) refl
  where
    settles : (t : Transaction) (e : Effect A) → t.tid ≡ k → (e.after).tid ≡ t.tid → (b : Bool)
        → IsRequester (record {
          next = r.next;
          standing = cond b (without_first (is_of k from) r.standing) (replaced (is_of k from) e.after r.standing);
        })
    settles t e numbered same true = without_lawful r (is_of k from) h
    settles t e numbered same false =
        replaced_lawful r (is_of k from) e.after (λ x is. same ∙ numbered ∙ sym (of_number k from x is)) h

    go : (o : Option Transaction) → find (is_of k from) r.standing ≡ o
        → IsRequester (response_came {A = A} r (is_of k from) place
        (record { eom = eom; packet = record { user = user; data_ = bytes } }) sts o).after
    go None e = h
    go (Some t) e =
        let found = all_found (λ (x : Transaction). Unit {0}) (is_of k from) r.standing t (all_units r.standing) e in
        settles t (came {A = A} t place (record { eom = eom; packet = record { user = user; data_ = bytes } }) sts)
        (of_number k from t found.1)
        (kept_tid A t place (record { eom = eom; packet = record { user = user; data_ = bytes } }) sts)
        (is_finished (came {A = A} t place (record { eom = eom; packet = record { user = user; data_ = bytes } })
        sts).step)

pub retried_lawful : (r : Requests) (k : ℕ) (e : Retried) → retried r k ≡ Some e → IsRequester r → IsRequester e.after
retried_lawful r k e is h = go (find (is_numbered k) r.standing) refl is
  where
    retry : (t : Transaction) (n : ℕ) → t.tid ≡ k → IsRequester (retried_with r k t n).after
    retry t zero numbered = without_lawful r (is_numbered k) h
    retry t (suc n) numbered = replaced_lawful r (is_numbered k) (record t { retries = n })
        (λ x p. numbered ∙ sym (eqb-true x.tid k p)) h

    go : (o : Option Transaction) → find (is_numbered k) r.standing ≡ o
        → option_map (λ (t : Transaction). retried_with r k t t.retries) o ≡ Some e → IsRequester e.after
    go None p g = absurd (cc)
    go (Some t) p g =
        let same : retried_with r k t t.retries ≡ e = cc in
        let found = all_found (λ (x : Transaction). Unit {0}) (is_numbered k) r.standing t (all_units r.standing) p in
        subst (λ (x : Retried). IsRequester x.after) same (retry t t.retries (eqb-true t.tid k found.1))

pub moved_lawful : (A : Type 0) (r : Requests) (m : Move) → IsRequester r → IsRequester (moved A r m)
moved_lawful A r (Begins to user bytes wanted xo retries) h = go (next_number r) refl
  where
    go : (o : Option ℕ) → next_number r ≡ o → IsRequester (begun_under r (Begins to user bytes wanted xo retries) o)
    go None e = h
    go (Some tid) e = begun_lawful r (beginning tid to user bytes wanted xo retries) e h
moved_lawful A r (Hears from f) h = heard_lawful A r from f h
moved_lawful A r (Retries k) h = go (retried r k) refl
  where
    go : (o : Option Retried) → retried r k ≡ o → IsRequester (after_retry r o)
    go None e = h
    go (Some e) is = retried_lawful r k e is h

-- ---- a transaction in its place

pub set_lawful : (r : Requests) (k i : ℕ) (p : Transaction → Bool) (y : Transaction)
    → ((x : Transaction) → p x ≡ true → x.tid ≡ k) → (f : Found p r.standing i) → y.tid ≡ (f.entry).tid → IsRequester r
    → IsRequester (record { next = r.next; standing = set r.standing i y })
set_lawful r k i p y of f same h =
    subst (λ l. IsRequester (record { next = r.next; standing = l })) (f.set_is y)
    (replaced_lawful r p y (λ x is. same ∙ of f.entry f.passes ∙ sym (of x is)) h)

pub passed_lawful : (r : Requests) (i : ℕ) (t : Transaction) (next : ℕ) → i < length r.standing → next < 65536
    → has_number (remove r.standing i) t.tid ≡ false → IsRequester r
    → IsRequester (record { next = next; standing = remove r.standing i ++ t ∷ [] })
passed_lawful r i t next within fits fresh h =
    let few = h.few in
    let one = length_remove r.standing i within in
    record {
      few = omega (arith, few, one, length-append (remove r.standing i) (t ∷ []));
      next_fits = fits;
      differ = differ_append (remove r.standing i) t (differ_remove r.standing i h.differ) fresh;
    }

-- A packet that ends a transaction leaves the requester as if that transaction were closed.
use Rattle.std.proofs.Common.{◌≡◌, ℕ, ◌<◌, ◌≤◌, Bool, true, false, cond, List, [], ◌∷◌, length, Option, Some, None}
use Rattle.std.proofs.Common.{IsSome, refl, sym, ap, subst, ◌∙◌, arith}
use Rattle.std.specs.Prelude.{find, ◌==◌, ◌&&◌, ◌||◌}
use Rattle.std.proofs.lemmas.Bool.{true≢false, false≢true, and_parts, eqb-true}
use Rattle.at_ddp.specs.Address.{same_address}
use Rattle.at_ddp.specs.Tables.{without_first}
use Rattle.at_ddp.specs.declared.address.Address.{Address}
use Rattle.at_ddp.proofs.CountLemmas.{shorter}
use Rattle.at_atp_frame.specs.Frames.{Content, Request, Response, Release, number_of}
use Rattle.at_atp_requester.specs.Requests.{Transaction, Requests, Effect, NumbersDiffer, IsRequester, has_number}
use Rattle.at_atp_requester.specs.Requests.{is_numbered, is_of, closing, came, is_at_least_once, is_finished, finishes}
use Rattle.at_atp_requester.specs.Requests.{heard, next_number, response_came}
use Rattle.at_atp_requester.proofs.RequestLemmas.{number_left}

-- an entry that is found has its number in the list
pub found_there : (ts : List Transaction) (tid : ℕ) (from : Address) (t : Transaction)
    → find (is_of tid from) ts ≡ Some t
    → has_number ts tid ≡ true
found_there [] tid from t h = absurd (cc)
found_there (x ∷ ts) tid from t h = go (found_there ts tid from t) (x.tid == tid) (same_address x.to from) refl refl h
  where
    go : (find (is_of tid from) ts ≡ Some t → has_number ts tid ≡ true) → (a b : Bool) → (x.tid == tid) ≡ a
        → same_address x.to from ≡ b → cond (a && b) (Some x) (find (is_of tid from) ts) ≡ Some t
        → ((x.tid == tid) || has_number ts tid) ≡ true
    go ih true b e f g = rw e refl
    go ih false b e f g = rw e (ih g)

-- of numbers that differ, the entry of a number is the one of that number and an address
pub same_gone : (ts : List Transaction) (tid : ℕ) (from : Address) (t : Transaction) → NumbersDiffer ts
    → find (is_of tid from) ts ≡ Some t → without_first (is_of tid from) ts ≡ without_first (is_numbered tid) ts
same_gone [] tid from t differ h = refl
same_gone (x ∷ ts) tid from t differ h = go (same_gone ts tid from t differ.1) (x.tid == tid)
    (same_address x.to from) refl refl h
  where
    twice : (x.tid == tid) ≡ true → find (is_of tid from) ts ≡ Some t → ⊥
    twice e g = true≢false (sym (found_there ts tid from t g) ∙ ap (has_number ts) (sym (eqb-true x.tid tid e))
        ∙ differ.0)

    go : (find (is_of tid from) ts ≡ Some t → without_first (is_of tid from) ts ≡ without_first (is_numbered tid) ts)
        → (a b : Bool) → (x.tid == tid) ≡ a → same_address x.to from ≡ b
        → cond (a && b) (Some x) (find (is_of tid from) ts) ≡ Some t → without_first (is_of tid from) (x ∷ ts)
        ≡ without_first (is_numbered tid) (x ∷ ts)
    go ih true true e f g = rw (e, f) refl
    go ih true false e f g = absurd (twice e g)
    go ih false b e f g = rw e (ap (λ l. x ∷ l) (ih g))

module _ (A : Type 0) (r : Requests) (from : Address) (place : ℕ) (eom sts : Bool) (tid : ℕ) (user bytes : List ℕ) where
  closed_by : (o : Option Transaction) → find (is_of tid from) r.standing ≡ o → NumbersDiffer r.standing →
      (is_at_least_once o && is_finished
      (response_came {A = A} r (is_of tid from) place
      (record { eom = eom; packet = record { user = user; data_ = bytes } }) sts o).step) ≡ true →
      (response_came {A = A} r (is_of tid from) place
      (record { eom = eom; packet = record { user = user; data_ = bytes } }) sts o).after ≡ closing r (Some tid)
  closed_by None e differ h = absurd (false≢true h)
  closed_by (Some t) e differ h =
      let effect : Effect A = came t place (record { eom = eom; packet = record { user = user; data_ = bytes } }) sts in
      let ends : is_finished effect.step
      ≡ true = (and_parts (is_at_least_once (Some t)) (is_finished effect.step) h).1 in
      rw ends (ap (λ l. record r { standing = l }) (same_gone r.standing tid from t differ e))

-- the requester after a packet that ends an at-least-once transaction
pub closes_its : (A : Type 0) (r : Requests) (from : Address) (f : Content) → NumbersDiffer r.standing
    → finishes A r from f ≡ true → (heard {A = A} r from f).after ≡ closing r (Some (number_of f))
closes_its A r from (Request mask xo timer tid user bytes) differ h = absurd (false≢true h)
closes_its A r from (Release tid) differ h = absurd (false≢true h)
closes_its A r from (Response place eom sts tid user bytes) differ h =
    closed_by A r from place eom sts tid user bytes (find (is_of tid from) r.standing) refl differ h

pub turns_to : (A : Type 0) (r : Requests) (closed : Option ℕ) (number : Option ℕ) → NumbersDiffer r.standing → number
    ≡ next_number (closing r closed) → (from : Address) (f : Content) → finishes A r from f ≡ true → closed
    ≡ Some (number_of f) → number ≡ next_number (heard {A = A} r from f).after
turns_to A r closed number differ is from f ends this = is ∙ ap (λ o. next_number (closing r o)) this
    ∙ ap next_number (sym (closes_its A r from f differ ends))

-- ---- a number is free then

-- if one of at most 32 open transactions is closed, another may begin
pub room_left : (ts : List Transaction) (tid : ℕ) → has_number ts tid ≡ true → length ts ≤ 32
    → length (without_first (is_numbered tid) ts) < 32
room_left ts tid h few = let less = shorter (is_numbered tid) ts h in omega (arith, less, few)

ends_open : (A : Type 0) (r : Requests) (from : Address) (f : Content) → finishes A r from f ≡ true
    → has_number r.standing (number_of f) ≡ true
ends_open A r from (Request mask xo timer tid user bytes) h = absurd (false≢true h)
ends_open A r from (Release tid) h = absurd (false≢true h)
ends_open A r from (Response place eom sts tid user bytes) h =
    go (find (is_of tid from) r.standing) refl
    (and_parts (is_at_least_once (find (is_of tid from) r.standing))
    (is_finished (heard {A = A} r from (Response place eom sts tid user bytes)).step) h).0
  where
    go : (o : Option Transaction) → find (is_of tid from) r.standing ≡ o → is_at_least_once o ≡ true
        → has_number r.standing tid ≡ true
    go None e g = absurd (false≢true g)
    go (Some t) e g = found_there r.standing tid from t e

pub is_free_then : (A : Type 0) (r : Requests) (from : Address) (f : Content) → IsRequester r → finishes A r from f
    ≡ true → IsSome (next_number (heard {A = A} r from f).after)
is_free_then A r from f ok h =
    subst (λ (x : Requests). IsSome (next_number x)) (sym (closes_its A r from f ok.differ h))
    (number_left (closing r (Some (number_of f))) (room_left r.standing (number_of f) (ends_open A r from f h) ok.few))

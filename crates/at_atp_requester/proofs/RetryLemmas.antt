-- What a retry does to a requester.
use Rattle.std.proofs.Common.{◌≡◌, ℕ, zero, suc, ◌-◌, true, false, cond, List, [], ◌∷◌, set, Some, None, refl, sym, ap}
use Rattle.std.proofs.Common.{subst, ◌∙◌, arith}
use Rattle.std.specs.Prelude.{find, remove, option_map, nat_lt, IfSome}
use Rattle.std.proofs.lemmas.Bool.{false≢true}
use Rattle.std.proofs.lemmas.Bool.Decides.{nat_tests}
use Rattle.at_ddp.specs.Outbox.{Outbox}
use Rattle.at_ddp.specs.Sending.{Sends}
use Rattle.at_ddp.specs.declared.address.Address.{Address}
use Rattle.at_atp_frame.specs.Frames.{Content, spelled_all}
use Rattle.at_atp_requester.specs.Requests.{Transaction, Requests, is_numbered, retried_with, retried, request_by}
use Rattle.at_atp_requester.specs.Requests.{IsRetried}
use Rattle.at_ddp.specs.Tables.{replaced}
use Rattle.at_atp_requester.specs.declared.progress.Retry.TheVariants.{AskedAgain, Failed}
use Rattle.at_atp_requester.proofs.StepLemmas.{remove-set}
use Rattle.at_ddp.proofs.TableLemmas.{Found}

pub not_open : (r : Requests) (tid : ℕ) → find (is_numbered tid) r.standing ≡ None → retried r tid ≡ None
not_open r tid none = ap (option_map (λ (t : Transaction). retried_with r tid t t.retries)) none

-- what a retry of the transaction at i is
open_at : (r : Requests) (tid i : ℕ) (f : Found (is_numbered tid) r.standing i) → retried r tid
    ≡ Some (retried_with r tid f.entry f.entry.retries)
open_at r tid i f = ap (option_map (λ (t : Transaction). retried_with r tid t t.retries)) f.first

pub is_open : (r : Requests) (tid i : ℕ) (f : Found (is_numbered tid) r.standing i) → retried r tid ≡ None → ⊥
is_open r tid i f none = let e : Some (retried_with r tid f.entry f.entry.retries) ≡ None = sym (open_at r tid i f)
    ∙ none in absurd (cc)

positive : (n : ℕ) → nat_lt 0 (suc n) ≡ true
positive n = grind (arith, nat_tests)

-- the request of this transaction, if there is a retry
abbrev pub asking_of : Transaction → List (Address × Content)
asking_of t = cond (nat_lt 0 t.retries) ((t.to, request_by t) ∷ []) []

pub asked_again : (r : Requests) (tid i : ℕ) (f : Found (is_numbered tid) r.standing i) (old new : Transaction)
    (before after : Outbox) → old ≡ f.entry → true ≡ nat_lt 0 old.retries →
    new ≡ record old { retries = old.retries - 1 } → Sends before after (spelled_all (asking_of old))
    → IsRetried r tid AskedAgain (record { next = r.next; standing = set r.standing i new }) before after
asked_again r tid i f old new before after is left state sent = go f.entry.retries refl
  where
    e : Transaction
    e = f.entry

    go : (n : ℕ) → e.retries ≡ n
        → IsRetried r tid AskedAgain (record { next = r.next; standing = set r.standing i new }) before after
    go zero none = let wrong : true ≡ nat_lt 0 0 = left ∙ ap (λ (t : Transaction). nat_lt 0 t.retries) is
        ∙ ap (nat_lt 0) none in absurd (cc)
    go (suc n) some =
        let one_less : e.retries - 1 ≡ n = omega (arith, some) in
        let same : new ≡ record e { retries = n } = state
        ∙ ap (λ (t : Transaction). record t { retries = t.retries - 1 }) is
        ∙ ap (λ k. record e { retries = k }) one_less in
        record {
          effect = retried_with r tid e (suc n);
          is_retry = open_at r tid i f ∙ ap (λ k. Some (retried_with r tid e k)) some;
          is_step = refl;
          is_new = λ j. record {
            next = r.next;
            standing = (sym (f.set_is new) ∙ ap (λ t. replaced (is_numbered tid) t r.standing) same) j;
          };
          sends = subst (λ xs. Sends before after (spelled_all xs))
              (ap asking_of is ∙ ap (λ k. cond (nat_lt 0 k) ((e.to, request_by e) ∷ []) []) some
              ∙ ap (λ b. cond b ((e.to, request_by e) ∷ []) []) (positive n)) sent;
        }

pub closed : (r : Requests) (tid i : ℕ) (f : Found (is_numbered tid) r.standing i) (old new : Transaction)
    (standing : List Transaction) (before after : Outbox) → old ≡ f.entry → false ≡ nat_lt 0 old.retries →
    Sends before after (spelled_all (asking_of old)) → standing ≡ remove (set r.standing i new) i
    → IsRetried r tid Failed (record { next = r.next; standing = standing }) before after
closed r tid i f old new standing before after is left sent gone = go f.entry.retries refl
  where
    e : Transaction
    e = f.entry

    go : (n : ℕ) → e.retries ≡ n → IsRetried r tid Failed (record { next = r.next; standing = standing }) before after
    go (suc n) some = let wrong : false ≡ nat_lt 0 (suc n) = left ∙ ap (λ (t : Transaction). nat_lt 0 t.retries) is
        ∙ ap (nat_lt 0) some in absurd (false≢true (wrong ∙ positive n))
    go zero none = record {
      effect = retried_with r tid e zero;
      is_retry = open_at r tid i f ∙ ap (λ k. Some (retried_with r tid e k)) none;
      is_step = refl;
      is_new = λ j. record { next = r.next; standing = (gone ∙ remove-set r.standing i new ∙ sym f.gone_is) j };
      sends = subst (λ xs. Sends before after (spelled_all xs))
          (ap asking_of is ∙ ap (λ k. cond (nat_lt 0 k) ((e.to, request_by e) ∷ []) []) none) sent;
    }

-- a retry that runs out of memory does not close the transaction: it had a retry left
pub not_closing : (r : Requests) (tid i : ℕ) (f : Found (is_numbered tid) r.standing i) (P : Type 0)
    → (f.entry.retries ≡ 0 → ⊥) → IfSome (retried r tid) (λ x. x.step ≡ Failed → P)
not_closing r tid i f P some = subst (λ o. IfSome o (λ x. x.step ≡ Failed → P)) (sym (open_at r tid i f))
    (go f.entry.retries refl)
  where
    go : (n : ℕ) → f.entry.retries ≡ n → (retried_with r tid f.entry n).step ≡ Failed → P
    go zero e h = absurd (some e)
    go (suc n) e h = absurd (cc)

pub closes_nothing : (r : Requests) (tid : ℕ) (P : Type 0) → retried r tid ≡ None
    → IfSome (retried r tid) (λ x. x.step ≡ Failed → P)
closes_nothing r tid P none = subst (λ o. IfSome o (λ x. x.step ≡ Failed → P)) (sym none) tt

-- The timers that are listed are those that do something.
use Rattle.std.proofs.Common.{◌≡◌, ℕ, zero, suc, Bool, true, false}
use Rattle.std.proofs.Common.{find, Option, Some, None, inl, inr, refl, ap, subst}
use Rattle.std.specs.Prelude.{option_map}
use Rattle.std.proofs.lemmas.Bool.{true≢false, eq-eqb}
use Rattle.at_ddp.specs.Tables.{without_first}
use Rattle.at_atp_requester.specs.Requests.{Transaction, is_numbered, retried_with}
use Rattle.at_event.specs.Outcomes.{over}
use Rattle.at_event.specs.declared.Timer.{Timer}
use Rattle.at_event.specs.declared.Timer.TheVariants as timer
use Rattle.at_event.specs.declared.transactions.TransactionTimer.TheVariants as atp_timer
use Rattle.at_event.specs.declared.names.NameTimer.TheVariants as nbp_timer
use Rattle.at_nbp.specs.Lookups.{Search, has_id, search_of}
use Rattle.at_node.specs.NameCalls.{asked_again}
use Rattle.at_node.specs.Nodes.{NodeState, timed, with_atp, with_names}
use Rattle.at_zone_socket.specs.AtpTimers.{retry_fired}
use Rattle.at_node.specs.Timers.{Acts, lookup_of, lookups, retries, retry_of}
use Rattle.at_zone_socket.specs.ZoneReading.{after_failing, is_reading}
use Rattle.at_ddp.proofs.MemberLemmas.{There, seen_there, there_found, without_differs}

-- ---- retries

pub retry_acts : (A : Type 0) (n : NodeState) (tid : ℕ) (t : Transaction)
    → find (is_numbered tid) n.atp.transactions.requester.standing ≡ Some t
    → Acts n (timed {A = A} n (timer.Transactions (atp_timer.Retry tid)))
retry_acts A n tid t is = rw is (go t.retries)
  where
    failed : (b : Bool) → Acts n (over (with_atp n)
        (after_failing {A = A} n.atp tid (record n.atp.transactions.requester {
          standing = without_first (is_numbered tid) n.atp.transactions.requester.standing;
        }) b))
    failed true = record {
      not_refused = refl;
      does = inl (λ e. without_differs (is_numbered tid) n.atp.transactions.requester.standing t is
          (ap (λ (m : NodeState). m.atp.transactions.requester.standing) e));
    }
    failed false = record {
      not_refused = refl;
      does = inl (λ e. without_differs (is_numbered tid) n.atp.transactions.requester.standing t is
          (ap (λ (m : NodeState). m.atp.transactions.requester.standing) e));
    }

    go : (k : ℕ) → Acts n (over (with_atp n) (retry_fired {A = A} n.seat n.atp tid
        (Some (retried_with n.atp.transactions.requester tid t k))))
    go zero = failed (is_reading n.atp.zones.reading tid)
    go (suc k) = record { not_refused = refl; does = inr (λ e. absurd (cc)) }

pub acts_retry : (A : Type 0) (n : NodeState) (tid : ℕ)
    → Acts n (timed {A = A} n (timer.Transactions (atp_timer.Retry tid))) → (t : Transaction)
    × (find (is_numbered tid) n.atp.transactions.requester.standing ≡ Some t)
acts_retry A n tid h = go (find (is_numbered tid) n.atp.transactions.requester.standing) refl h
  where
    go : (o : Option Transaction) → find (is_numbered tid) n.atp.transactions.requester.standing ≡ o
        → Acts n (over (with_atp n) (retry_fired {A = A} n.seat n.atp tid
        (option_map (λ t. retried_with n.atp.transactions.requester tid t t.retries) o))) → (t : Transaction)
        × (find (is_numbered tid) n.atp.transactions.requester.standing ≡ Some t)
    go None e g = absurd (true≢false g.not_refused)
    go (Some t) e g = (t, e)

pub retries_act : (A : Type 0) (n : NodeState) (t : Timer) → There (retries n.atp.transactions.requester.standing) t
    → Acts n (timed {A = A} n t)
retries_act A n t h =
    let one = seen_there (λ (x : Transaction). retry_of x.tid) n.atp.transactions.requester.standing t h in
    let found = there_found (is_numbered (one.0).tid) n.atp.transactions.requester.standing one.0 one.1
    (eq-eqb (one.0).tid (one.0).tid refl) in
    subst (λ (x : Timer). Acts n (timed {A = A} n x)) one.2 (retry_acts A n (one.0).tid found.0 found.1)

-- ---- lookups

pub lookup_acts : (A : Type 0) (n : NodeState) (id : ℕ) (s : Search) → search_of n.names.lookups id ≡ Some s
    → Acts n (timed {A = A} n (timer.Names (nbp_timer.Lookup id)))
lookup_acts A n id s is = rw is (record { not_refused = refl; does = inr (λ e. absurd (cc)) })

pub acts_lookup : (A : Type 0) (n : NodeState) (id : ℕ) → Acts n (timed {A = A} n (timer.Names (nbp_timer.Lookup id)))
    → (s : Search)
    × (search_of n.names.lookups id ≡ Some s)
acts_lookup A n id h = go (search_of n.names.lookups id) refl h
  where
    go : (o : Option Search) → search_of n.names.lookups id ≡ o
        → Acts n (over (with_names n) (asked_again {A = A} n.seat n.names o)) → (s : Search)
        × (search_of n.names.lookups id ≡ Some s)
    go None e g = absurd (true≢false g.not_refused)
    go (Some s) e g = (s, e)

pub lookups_act : (A : Type 0) (n : NodeState) (t : Timer) → There (lookups n.names.lookups.searches) t
    → Acts n (timed {A = A} n t)
lookups_act A n t h =
    let one = seen_there (λ (x : Search). lookup_of x.id) n.names.lookups.searches t h in
    let found = there_found (has_id (one.0).id) n.names.lookups.searches one.0 one.1
    (eq-eqb (one.0).id (one.0).id refl) in
    subst (λ (x : Timer). Acts n (timed {A = A} n x)) one.2 (lookup_acts A n (one.0).id found.0 found.1)

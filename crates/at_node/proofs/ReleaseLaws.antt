-- The releases that are listed are those that remove a record.
use Rattle.std.proofs.Common.{◌≡◌, ℕ, true, List}
use Rattle.std.proofs.Common.{find, Option, Some, None, inl, refl, ap}
use Rattle.std.specs.Prelude.{option_map}
use Rattle.std.proofs.lemmas.Bool.{true≢false, eq-eqb}
use Rattle.at_atp_responder.specs.Keys.{AreApart, key_of}
use Rattle.at_atp_responder.specs.Once.{same_key}
use Rattle.at_atp_responder.specs.Records.{State, Waiting, Answered, Released, Record, is_key, expiry_fault}
use Rattle.at_atp_responder.specs.Records.{expiry_fault_of}
use Rattle.at_atp_responder.specs.Records.{expiring_key}
use Rattle.at_atp_responder.specs.declared.reception.Key.{Key}
use Rattle.at_ddp.proofs.Octets.{same_address_itself, same_both}
use Rattle.at_event.specs.Outcomes.{over}
use Rattle.at_event.specs.declared.Timer.{Timer}
use Rattle.at_event.specs.declared.Timer.TheVariants as timer
use Rattle.at_event.specs.declared.transactions.TransactionTimer.TheVariants as atp_timer
use Rattle.at_node.specs.Nodes.{NodeState, timed, with_atp}
use Rattle.at_zone_socket.specs.AtpTimers.{expired, records_at}
use Rattle.at_node.specs.Timers.{Acts, release_of, releases}
use Rattle.at_ddp.proofs.MemberLemmas.{There, there_some, some_there, found_there, sole_seen, without_differs}

-- a record that can expire is found under this key
abbrev pub CanGo : List Record → Key → Type 0
CanGo rs key = (r : Record) × (find (is_key key) rs ≡ Some r) × (expiry_fault_of r.state ≡ None)

pub itself : (key : Key) → same_key key key ≡ true
itself key = rw (same_address_itself key.from, eq-eqb key.tid key.tid refl) refl

-- a record is found under its own key
found_by_key : (rs : List Record) (r : Record) → AreApart rs → There rs r → find (is_key r.key) rs ≡ Some r
found_by_key rs r apart there =
    sole_seen key_of same_key (is_key r.key) rs r (itself r.key) (λ x e. e) there apart

-- ---- it acts if such a record is there

pub release_acts_129 : (A : Type 0) (n : NodeState) (key : Key) → CanGo n.atp.transactions.service_responder key
    → Acts n (timed {A = A} n (timer.Transactions (atp_timer.Release 129 key)))
release_acts_129 A n key h = rw (h.1, h.2) (record {
  not_refused = refl;
  does = inl (λ e. without_differs (is_key key) n.atp.transactions.service_responder h.0 h.1
      (ap (λ (m : NodeState). m.atp.transactions.service_responder) e));
})

pub release_acts_6 : (A : Type 0) (n : NodeState) (key : Key) → CanGo n.atp.zones.zone_responder key
    → Acts n (timed {A = A} n (timer.Transactions (atp_timer.Release 6 key)))
release_acts_6 A n key h = rw (h.1, h.2) (record {
  not_refused = refl;
  does = inl (λ e. without_differs (is_key key) n.atp.zones.zone_responder h.0 h.1
      (ap (λ (m : NodeState). m.atp.zones.zone_responder) e));
})

-- ---- and only then

pub acts_release : (A : Type 0) (n : NodeState) (own : ℕ) (key : Key)
    → Acts n (timed {A = A} n (timer.Transactions (atp_timer.Release own key)))
    → CanGo (records_at n.atp own) key
acts_release A n own key h = go (find (is_key key) (records_at n.atp own)) refl h
  where
    state : (r : Record) → find (is_key key) (records_at n.atp own) ≡ Some r → (s : State) → r.state ≡ s
        → Acts n (over (with_atp n) (expired {A = A} n.atp own key (expiry_fault_of s)))
        → CanGo (records_at n.atp own) key
    state r e (Waiting xo bitmap) f g = absurd (true≢false g.not_refused)
    state r e (Answered packets) f g = (r, e, ap expiry_fault_of f)
    state r e Released f g = (r, e, ap expiry_fault_of f)

    go : (o : Option Record) → find (is_key key) (records_at n.atp own) ≡ o
        → Acts n (over (with_atp n) (expired {A = A} n.atp own key (expiry_fault o)))
        → CanGo (records_at n.atp own) key
    go None e g = absurd (true≢false g.not_refused)
    go (Some r) e g = state r e r.state refl g

-- ---- such a record is listed

own_key : (key : Key) (r : Record) → is_key key r ≡ true → r.key ≡ key
own_key key r h = let both = same_both r.key.from key.from r.key.tid key.tid h in
    λ i. record { from = both.0 i; tid = both.1 i }

pub can_go_listed : (own : ℕ) (key : Key) (rs : List Record) → CanGo rs key
    → There (releases own rs) (timer.Transactions (atp_timer.Release own key))
can_go_listed own key rs h =
    let f = found_there (is_key key) rs h.0 h.1 in
    there_some (λ r. option_map (release_of own) (expiring_key r)) rs h.0
    (timer.Transactions (atp_timer.Release own key))
    f.0
    (is_listed (own_key key h.0 f.1) h.2)
  where
    is_listed : (h.0).key ≡ key → expiry_fault_of (h.0).state ≡ None
        → option_map (release_of own) (expiring_key h.0) ≡ Some (timer.Transactions (atp_timer.Release own key))
    is_listed k e = rw (e, k) refl

-- ---- and what is listed is such a record

pub listed_can_go : (own : ℕ) (rs : List Record) (t : Timer) → AreApart rs → There (releases own rs) t → (key : Key)
    × (t ≡ timer.Transactions (atp_timer.Release own key)) × CanGo rs key
listed_can_go own rs t apart h =
    let one = some_there (λ r. option_map (release_of own) (expiring_key r)) rs t h in
    go one.0 one.1 ((one.0).state) refl one.2
  where
    found : (r : Record) → There rs r → expiry_fault_of r.state ≡ None
        → Some (release_of own r.key) ≡ Some t → (key : Key) × (t ≡ timer.Transactions (atp_timer.Release own key))
        × CanGo rs key
    found r there e g = (r.key, cc, (r, found_by_key rs r apart there, e))

    go : (r : Record) → There rs r → (s : State) → r.state ≡ s
        → option_map (release_of own) (expiring_key r) ≡ Some t
        → (key : Key) × (t ≡ timer.Transactions (atp_timer.Release own key)) × CanGo rs key
    go r there (Waiting xo bitmap) e g = absurd (let x = rw e at g in cc)
    go r there (Answered packets) e g = found r there (ap expiry_fault_of e) (rw e at g)
    go r there Released e g = found r there (ap expiry_fault_of e) (rw e at g)

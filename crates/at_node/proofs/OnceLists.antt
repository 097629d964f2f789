-- The timers that are listed differ from each other.
use Rattle.std.proofs.Common.{◌≡◌, ◌≢◌, ℕ, zero, suc, ◌<◌, Bool, true, false, cond, List, [], ◌∷◌, ◌++◌, length, map}
use Rattle.std.proofs.Common.{slice_index_or, Option, Some, None, ◌⊎◌, inl, inr, refl, sym, ap, subst, ◌∙◌, arith}
use Rattle.std.specs.Prelude.{◌==◌, ◌||◌, filter_map, is_none, option_map}
use Rattle.std.specs.List.{AllByRecursion, AllPairs, IsDistinct, cons_option}
use Rattle.std.proofs.lemmas.Bool.{true≢false, eq-eqb}
use Rattle.at_adsp_end.specs.Calls.{heeds}
use Rattle.at_adsp_end.specs.Ends.{EndState}
use Rattle.at_adsp_end.specs.declared.tick.Tick.{Tick}
use Rattle.at_adsp_end.specs.declared.tick.Tick.TheVariants as tick
use Rattle.at_adsp_ends.specs.Calls.{heeding}
use Rattle.at_adsp_ends.specs.Tables.{IdsDiffer, has_id}
use Rattle.at_atp_requester.specs.Requests.{NumbersDiffer, Transaction, has_number}
use Rattle.at_atp_responder.specs.Keys.{AreApart, key_of}
use Rattle.at_atp_responder.specs.Once.{same_key}
use Rattle.at_atp_responder.specs.Records.{Record, expiring_key, expiry_fault_of}
use Rattle.at_atp_responder.specs.declared.reception.Key.{Key}
use Rattle.at_event.specs.declared.Timer.{Timer}
use Rattle.at_event.specs.declared.Timer.TheVariants as timer
use Rattle.at_event.specs.declared.transactions.TransactionTimer.TheVariants as atp_timer
use Rattle.at_event.specs.declared.names.NameTimer.TheVariants as nbp_timer
use Rattle.at_event.specs.declared.streams.StreamTimer.TheVariants as adsp_timer
use Rattle.at_nbp.specs.Lookups as nbp
use Rattle.at_nbp.specs.Lookups.{Search}
use Rattle.at_node.specs.Limits.{IsWithin}
use Rattle.at_node.specs.Nodes.{NodeState}
use Rattle.at_node.specs.Timers.{lookup_of, lookups, release_of, releases, retries, retry_of, ticks, timer_of}
use Rattle.at_node.specs.Timers.{timers_of}
use Rattle.at_ddp.proofs.MemberLemmas.{There, seen_there, some_there, there_either}
use Rattle.at_node.proofs.ReleaseLaws.{itself}

-- ---- lists whose entries differ

abbrev pub Once : {X : Type 0} → List X → Type 0
Once [] = Unit {0}
Once (x ∷ xs) = (There xs x → ⊥) × Once xs

there_at : {X : Type 0} (xs : List X) (k : ℕ) (d : X) → k < length xs → There xs (slice_index_or xs k d)
there_at [] k d lt = absurd (omega (arith, lt))
there_at (x ∷ xs) zero d lt = inl refl
there_at (x ∷ xs) (suc k) d lt = inr (there_at xs k d (omega (arith, lt)))

pub once_pairs : {X : Type 0} (xs : List X) → Once xs → AllPairs (λ a b. a ≢ b) xs
once_pairs [] h i j d lt within = absurd (omega (arith, within))
once_pairs (x ∷ xs) h zero zero d lt within = absurd (omega (arith, lt))
once_pairs {X} (x ∷ xs) h zero (suc j) d lt within =
    λ same. h.0 (subst (λ (y : X). There xs y) (sym same) (there_at xs j d (omega (arith, within))))
once_pairs (x ∷ xs) h (suc i) zero d lt within = absurd (omega (arith, lt))
once_pairs (x ∷ xs) h (suc i) (suc j) d lt within =
    once_pairs xs h.1 i j d (omega (arith, lt)) (omega (arith, within))

once_both : {X : Type 0} (xs ys : List X) → Once xs → Once ys → ((t : X) → There xs t → There ys t → ⊥)
    → Once (xs ++ ys)
once_both [] ys a b apart = b
once_both {X} (x ∷ xs) ys a b apart = (
  λ h. neither (there_either xs ys x h),
  once_both xs ys a.1 b (λ t g. apart t (inr g)),
)
  where
    neither : There xs x ⊎ There ys x → ⊥
    neither (inl g) = a.0 g
    neither (inr g) = apart x (inl refl) g

all_there : {X : Type 0} (P : X → Type 0) (xs : List X) (x : X) → There xs x → AllByRecursion P xs → P x
all_there P [] x h a = absurd h
all_there P (y ∷ ys) x (inl s) a = subst P s a.0
all_there P (y ∷ ys) x (inr g) a = all_there P ys x g a.1

once_seen : {X Y : Type 0} (f : X → Y) (same : X → X → Bool) (xs : List X)
    → ((x y : X) → f y ≡ f x → same x y ≡ true) → IsDistinct same xs → Once (map f xs)
unfolding IsDistinct
once_seen f same [] one d = tt
once_seen f same (x ∷ xs) one d = (
  λ h. let m = seen_there f xs (f x) h in
      true≢false (sym (one x m.0 m.2) ∙ all_there (λ z. same x z ≡ false) xs m.0 m.1 d.0),
  once_seen f same xs one d.1,
)

once_some : {X Y : Type 0} (f : X → Option Y) (same : X → X → Bool) (xs : List X)
    → ((x y : X) (t : Y) → f x ≡ Some t → f y ≡ Some t → same x y ≡ true) → IsDistinct same xs
    → Once (filter_map f xs)
unfolding IsDistinct
once_some f same [] one d = tt
once_some {X} {Y} f same (x ∷ xs) one d = go (f x) refl (once_some f same xs one d.1)
  where
    go : (o : Option Y) → f x ≡ o → Once (filter_map f xs) → Once (cons_option o (filter_map f xs))
    go None e ih = ih
    go (Some w) e ih = (
      λ h. let m = some_there f xs w h in
          true≢false (sym (one x m.0 w e m.2) ∙ all_there (λ z. same x z ≡ false) xs m.0 m.1 d.0),
      ih,
    )

all_seen : {X Y : Type 0} (f : X → Y) (P : Y → Type 0) (xs : List X) → AllByRecursion P (map f xs)
    → AllByRecursion (λ x. P (f x)) xs
all_seen f P [] h = tt
all_seen f P (x ∷ xs) h = (h.0, all_seen f P xs h.1)

distinct_seen : {X Y : Type 0} (f : X → Y) (same : Y → Y → Bool) (xs : List X) → IsDistinct same (map f xs)
    → IsDistinct (λ a b. same (f a) (f b)) xs
unfolding IsDistinct
distinct_seen f same [] h = tt
distinct_seen f same (x ∷ xs) h = (all_seen f (λ z. same (f x) z ≡ false) xs h.0, distinct_seen f same xs h.1)

-- ---- the parts

numbers_distinct : (ts : List Transaction) → NumbersDiffer ts → IsDistinct (λ a b. b.tid == a.tid) ts
unfolding IsDistinct
numbers_distinct [] h = tt
numbers_distinct (t ∷ ts) h = (none t.tid ts h.0, numbers_distinct ts h.1)
  where
    none : (tid : ℕ) (us : List Transaction) → has_number us tid ≡ false
        → AllByRecursion (λ u. (u.tid == tid) ≡ false) us
    none tid [] g = tt
    none tid (u ∷ us) g = go (u.tid == tid) refl g (λ k. none tid us k)
      where
        go : (b : Bool) → (u.tid == tid) ≡ b → (b || has_number us tid) ≡ false
            → (has_number us tid ≡ false → AllByRecursion (λ w. (w.tid == tid) ≡ false) us)
            → AllByRecursion (λ w. (w.tid == tid) ≡ false) (u ∷ us)
        go true e k ih = absurd (true≢false k)
        go false e k ih = (e, ih k)

once_retries : (ts : List Transaction) → NumbersDiffer ts → Once (retries ts)
once_retries ts h = once_seen (λ (t : Transaction). retry_of t.tid) (λ a b. b.tid == a.tid) ts
    (λ x y e. let same : y.tid ≡ x.tid = cc in eq-eqb y.tid x.tid same) (numbers_distinct ts h)

once_lookups : (ss : List Search) → IsDistinct (λ a b. nbp.has_id a.id b) ss → Once (lookups ss)
once_lookups ss h = once_seen (λ (s : Search). lookup_of s.id) (λ a b. nbp.has_id a.id b) ss
    (λ x y e. let same : y.id ≡ x.id = cc in eq-eqb y.id x.id same) h

-- what a listed release is
release_is : (own : ℕ) (r : Record) (t : Timer) → option_map (release_of own) (expiring_key r) ≡ Some t
    → release_of own r.key ≡ t
release_is own r t h = go (is_none (expiry_fault_of r.state)) h
  where
    go : (b : Bool) → option_map (release_of own) (cond b (Some r.key) None) ≡ Some t → release_of own r.key ≡ t
    go true g = cc
    go false g = absurd (cc)

once_releases : (own : ℕ) (rs : List Record) → AreApart rs → Once (releases own rs)
once_releases own rs h = once_some (λ r. option_map (release_of own) (expiring_key r))
    (λ a b. same_key (key_of a) (key_of b)) rs one (distinct_seen key_of same_key rs h)
  where
    one : (x y : Record) (t : Timer) → option_map (release_of own) (expiring_key x) ≡ Some t
        → option_map (release_of own) (expiring_key y) ≡ Some t → same_key x.key y.key ≡ true
    one x y t e f =
        let both : release_of own x.key ≡ release_of own y.key = release_is own x t e ∙ sym (release_is own y t f) in
        let keys : x.key ≡ y.key = cc both in
        subst (λ (k : Key). same_key x.key k ≡ true) keys (itself x.key)

-- what a listed tick is
tick_is : (k : Tick) (e : EndState) (t : Timer) → option_map (timer_of k) (heeding k e) ≡ Some t → timer_of k e.id ≡ t
tick_is k e t h = go (heeds e k) h
  where
    go : (b : Bool) → option_map (timer_of k) (cond b (Some e.id) None) ≡ Some t → timer_of k e.id ≡ t
    go true g = cc
    go false g = absurd (cc)

same_id : (k : Tick) (a b : ℕ) → timer_of k a ≡ timer_of k b → a ≡ b
same_id tick.Retransmit a b h = cc
same_id tick.Probe a b h = cc

once_ticks : (k : Tick) (es : List EndState) → IdsDiffer es → Once (ticks k es)
once_ticks k es h = once_some (λ e. option_map (timer_of k) (heeding k e)) (λ a b. has_id a.id b) es
    (λ x y t e f. eq-eqb y.id x.id (same_id k y.id x.id (tick_is k y t f ∙ sym (tick_is k x t e)))) h

-- ---- the parts have nothing in common

abbrev kind : Timer → ℕ
kind (timer.Transactions (atp_timer.Retry tid)) = 0
kind (timer.Transactions (atp_timer.Release own key)) = suc own
kind (timer.Names (nbp_timer.Lookup id)) = 200
kind (timer.Streams (adsp_timer.Resend id)) = 201
kind (timer.Streams (adsp_timer.Probe id)) = 202

-- the timers of a list differ, and are of kinds below this
record Below (bound : ℕ) (ts : List Timer) : Type 0 where
  once : Once ts
  low : (t : Timer) → There ts t → kind t < bound

joins : (m bound : ℕ) (xs ys : List Timer) → Below m xs → Once ys → ((t : Timer) → There ys t → kind t ≡ m) → m < bound
    → Below bound (xs ++ ys)
joins m bound xs ys a b is less = record {
  once = once_both xs ys a.once b (λ t g h. let lt = a.low t g in let same = is t h in omega (arith, lt, same));
  low = λ t h. go t (there_either xs ys t h);
}
  where
    go : (t : Timer) → There xs t ⊎ There ys t → kind t < bound
    go t (inl g) = let lt = a.low t g in omega (arith, lt, less)
    go t (inr g) = let same = is t g in omega (arith, same, less)

retry_kind : (ts : List Transaction) (t : Timer) → There (retries ts) t → kind t ≡ 0
retry_kind ts t h = let m = seen_there (λ (x : Transaction). retry_of x.tid) ts t h in ap kind (sym m.2)

lookup_kind : (ss : List Search) (t : Timer) → There (lookups ss) t → kind t ≡ 200
lookup_kind ss t h = let m = seen_there (λ (x : Search). lookup_of x.id) ss t h in ap kind (sym m.2)

release_kind : (own : ℕ) (rs : List Record) (t : Timer) → There (releases own rs) t → kind t ≡ suc own
release_kind own rs t h =
    let m = some_there (λ r. option_map (release_of own) (expiring_key r)) rs t h in
    ap kind (sym (release_is own m.0 t m.2))

resend_kind : (es : List EndState) (t : Timer) → There (ticks tick.Retransmit es) t → kind t ≡ 201
resend_kind es t h =
    let m = some_there (λ e. option_map (timer_of tick.Retransmit) (heeding tick.Retransmit e)) es t h in
    ap kind (sym (tick_is tick.Retransmit m.0 t m.2))

probe_kind : (es : List EndState) (t : Timer) → There (ticks tick.Probe es) t → kind t ≡ 202
probe_kind es t h =
    let m = some_there (λ e. option_map (timer_of tick.Probe) (heeding tick.Probe e)) es t h in
    ap kind (sym (tick_is tick.Probe m.0 t m.2))

-- ---- all of them

pub timers_once : (n : NodeState) → IsWithin n → AreApart n.atp.zones.zone_responder → AreApart
    n.atp.transactions.service_responder
    → AllPairs (λ a b. a ≢ b) (timers_of n)
timers_once n within zones services = once_pairs (timers_of n) all.once
  where
    first : Below 7 (retries n.atp.transactions.requester.standing)
    first = record {
      once = once_retries n.atp.transactions.requester.standing (within.requester).differ;
      low = λ t h. let is = retry_kind n.atp.transactions.requester.standing t h in omega (arith, is);
    }

    all : Below 203 (timers_of n)
    all =
        let a = joins 7 130 (retries n.atp.transactions.requester.standing) (releases 6 n.atp.zones.zone_responder)
        first
        (once_releases 6 n.atp.zones.zone_responder zones) (release_kind 6 n.atp.zones.zone_responder)
        (omega arith) in
        let b = joins 130 200 (retries n.atp.transactions.requester.standing ++ releases 6 n.atp.zones.zone_responder)
        (releases 129 n.atp.transactions.service_responder) a
        (once_releases 129 n.atp.transactions.service_responder services)
        (release_kind 129 n.atp.transactions.service_responder) (omega arith) in
        let c = joins 200 201 (retries n.atp.transactions.requester.standing ++ releases 6 n.atp.zones.zone_responder
        ++ releases 129 n.atp.transactions.service_responder) (lookups n.names.lookups.searches) b
        (once_lookups n.names.lookups.searches (within.lookups).differ) (lookup_kind n.names.lookups.searches)
        (omega arith) in
        let d = joins 201 202 (retries n.atp.transactions.requester.standing ++ releases 6 n.atp.zones.zone_responder
        ++ releases 129 n.atp.transactions.service_responder ++ lookups n.names.lookups.searches)
        (ticks tick.Retransmit n.streams.ends) c
        (once_ticks tick.Retransmit n.streams.ends (within.ends).ids_differ) (resend_kind n.streams.ends)
        (omega arith) in
        joins 202 203 (retries n.atp.transactions.requester.standing ++ releases 6 n.atp.zones.zone_responder
        ++ releases 129 n.atp.transactions.service_responder ++ lookups n.names.lookups.searches
        ++ ticks tick.Retransmit n.streams.ends) (ticks tick.Probe n.streams.ends) d
        (once_ticks tick.Probe n.streams.ends (within.ends).ids_differ) (probe_kind n.streams.ends) (omega arith)

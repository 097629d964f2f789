-- How often the record of a request comes and goes at one responder.
use Rattle.std.proofs.Common.{◌≡◌, ℕ, ◌+◌, ◌≤◌, Bool, true, false, cond, List, [], ◌∷◌, ◌++◌, Option, Some, None, ◌⊎◌}
use Rattle.std.proofs.Common.{inl, inr, refl, sym, ap, ◌∙◌, arith}
use Rattle.std.specs.Prelude.{find, is_some, not, ◌&&◌, ◌||◌}
use Rattle.std.proofs.lemmas.Bool.{true≢false, or_from, or_parts}
use Rattle.at_ddp.specs.declared.address.Address.{Address}
use Rattle.at_atp_frame.specs.Frames.{Content, Request, Response, Release}
use Rattle.at_atp_responder.specs.Once.{Event, Comes, Answers, Expires, Undoes, unless, next, is_new_of, hands_up}
use Rattle.at_atp_responder.specs.Once.{same_key, stands, removes, once_if, hand_ups, removals, is_once}
use Rattle.at_atp_frame.specs.Packets.{Packet}
use Rattle.at_atp_responder.specs.Records.{State, Waiting, Answered, Released, Record, Received, is_key, repeated}
use Rattle.at_atp_responder.specs.Records.{released, came_again, request_came, release_came, passed, is_passed_over}
use Rattle.at_atp_responder.specs.Records.{received, record_fault, answer_fault, is_kept, after_answer, expiry_fault}
use Rattle.at_ddp.specs.Tables.{replaced, without_first}
use Rattle.at_atp_frame.specs.declared.fault.AtpFault.{AtpFault}
use Rattle.at_atp_responder.specs.declared.reception.Key.{Key}
use Rattle.at_ddp.proofs.Alls.{found_passes}
use Rattle.at_atp_responder.proofs.AnsweringLemmas.{answerable}
use Rattle.at_atp_responder.proofs.RecordLemmas.{own}

-- ---- which records stand

some_or : (b : Bool) (r : Record) (o : Option Record) → is_some (cond b (Some r) o) ≡ (b || is_some o)
some_or true r o = refl
some_or false r o = refl

pub stands_first : (key : Key) (r : Record) (rs : List Record) → stands key (r ∷ rs)
    ≡ (same_key r.key key || stands key rs)
stands_first key r rs = some_or (same_key r.key key) r (find (is_key key) rs)

pub stands_last : (key : Key) (r : Record) (rs : List Record) → stands key (rs ++ r ∷ [])
    ≡ (stands key rs || same_key r.key key)
stands_last key r [] = go (same_key r.key key)
  where
    go : (b : Bool) → is_some (cond b (Some r) None) ≡ b
    go true = refl
    go false = refl
stands_last key r (x ∷ rs) = go (stands_last key r rs) (same_key x.key key)
  where
    go : stands key (rs ++ r ∷ []) ≡ (stands key rs || same_key r.key key) → (b : Bool)
        → is_some (cond b (Some x) (find (is_key key) (rs ++ r ∷ [])))
        ≡ (is_some (cond b (Some x) (find (is_key key) rs)) || same_key r.key key)
    go ih true = refl
    go ih false = ih

-- a record changes, and its key does not
pub stands_replaced : (key k : Key) (y : Record) (rs : List Record) → y.key ≡ k → stands key (replaced (is_key k) y rs)
    ≡ stands key rs
stands_replaced key k y [] same = refl
stands_replaced key k y (r ∷ rs) same = go (stands_replaced key k y rs same) (is_key k r) refl
  where
    go : stands key (replaced (is_key k) y rs) ≡ stands key rs → (b : Bool) → is_key k r ≡ b
        → stands key (cond b (y ∷ rs) (r ∷ replaced (is_key k) y rs)) ≡ stands key (r ∷ rs)
    go ih true e = stands_first key y rs ∙ ap (λ x. same_key x key || stands key rs) (same ∙ sym (own k r e))
        ∙ sym (stands_first key r rs)
    go ih false e = stands_first key r (replaced (is_key k) y rs) ∙ ap (λ b. same_key r.key key || b) ih
        ∙ sym (stands_first key r rs)

-- what goes makes nothing stand
pub stands_without : (key : Key) (q : Record → Bool) (rs : List Record) → stands key rs ≡ false
    → stands key (without_first q rs) ≡ false
stands_without key q [] h = h
stands_without key q (r ∷ rs) h = go (stands_without key q rs parts.1) (q r)
  where
    parts : (same_key r.key key ≡ false) × (stands key rs ≡ false)
    parts = or_parts (same_key r.key key) (stands key rs) (sym (stands_first key r rs) ∙ h)

    go : stands key (without_first q rs) ≡ false → (b : Bool) → stands key (cond b rs (r ∷ without_first q rs)) ≡ false
    go ih true = parts.1
    go ih false = stands_first key r (without_first q rs)
        ∙ or_from (same_key r.key key) (stands key (without_first q rs)) parts.0 ih

-- if the record of another key is removed, this one stays
stays_without : (key k : Key) (rs : List Record) → same_key k key ≡ false → stands key (without_first (is_key k) rs)
    ≡ stands key rs
stays_without key k [] other = refl
stays_without key k (r ∷ rs) other = go (stays_without key k rs other) (is_key k r) refl
  where
    go : stands key (without_first (is_key k) rs) ≡ stands key rs → (b : Bool) → is_key k r ≡ b
        → stands key (cond b rs (r ∷ without_first (is_key k) rs)) ≡ stands key (r ∷ rs)
    go ih true e = sym (stands_first key r rs
        ∙ ap (λ b. b || stands key rs) (ap (λ x. same_key x key) (own k r e) ∙ other))
    go ih false e = stands_first key r (without_first (is_key k) rs) ∙ ap (λ b. same_key r.key key || b) ih
        ∙ sym (stands_first key r rs)

-- ---- one event

abbrev Balanced : Bool → Bool → Bool → Type 0
Balanced hands before then = once_if hands + once_if before ≡ once_if (before && not then) + once_if then

-- nothing is delivered, and no new record stands
none_new : (before then : Bool) → (before ≡ false → then ≡ false) → Balanced false before then
none_new true true h = refl
none_new true false h = refl
none_new false true h = absurd (true≢false (h refl))
none_new false false h = refl

same_stand : (before then : Bool) → then ≡ before → Balanced false before then
same_stand before then same = none_new before then (λ h. same ∙ h)

-- what comes of a packet for one request
abbrev Settled : Key → List Record → Received → Type 0
Settled key rs t = Balanced (is_new_of key t.reception) (stands key rs) (stands key t.after)
    × (stands key rs ≡ true → stands key t.after ≡ true)

stays : (key : Key) (rs after : List Record) → stands key after ≡ stands key rs
    → Balanced false (stands key rs) (stands key after) × (stands key rs ≡ true → stands key after ≡ true)
stays key rs after same = (same_stand (stands key rs) (stands key after) same, λ h. same ∙ h)

came_settled : (key k : Key) (rs : List Record) (r : Record) (s : State) → find (is_key k) rs ≡ Some r
    → stands key (replaced (is_key k) (record r { state = s }) rs) ≡ stands key rs
came_settled key k rs r s is =
    stands_replaced key k (record r { state = s }) rs (own k r (found_passes (is_key k) rs r is))

request_settled : (key k : Key) (rs : List Record) (xo : Bool) (bitmap : ℕ) (o : Option Record) → find (is_key k) rs
    ≡ o → Settled key rs (request_came rs k xo bitmap o)
request_settled key k rs xo bitmap None none = go (same_key k key) refl
  where
    last : stands key (rs ++ record { key = k; state = Waiting xo bitmap } ∷ []) ≡ (stands key rs || same_key k key)
    last = stands_last key (record { key = k; state = Waiting xo bitmap }) rs

    more : (a b : Bool) → a ≡ true → (a || b) ≡ true
    more true b h = refl
    more false b h = absurd (true≢false (sym h))

    here : (before then : Bool) → before ≡ false → then ≡ true → Balanced true before then
    here true then e f = absurd (true≢false e)
    here false true e f = refl
    here false false e f = absurd (true≢false (sym f))

    all : (a : Bool) → (a || false) ≡ a
    all true = refl
    all false = refl

    go : (b : Bool) → same_key k key ≡ b
        → Balanced b (stands key rs) (stands key (rs ++ record { key = k; state = Waiting xo bitmap } ∷ []))
        × (stands key rs ≡ true → stands key (rs ++ record { key = k; state = Waiting xo bitmap } ∷ []) ≡ true)
    go true e =
        let before : stands key rs
        ≡ false = ap (λ x. stands x rs) (sym (own key (record { key = k; state = Released }) e))
        ∙ ap is_some none in (
          here (stands key rs) (stands key (rs ++ record { key = k; state = Waiting xo bitmap } ∷ [])) before
              (last ∙ rw (before, e) refl),
          λ h. last ∙ more (stands key rs) (same_key k key) h,
        )
    go false e = stays key rs (rs ++ record { key = k; state = Waiting xo bitmap } ∷ [])
        (last ∙ ap (λ b. stands key rs || b) e ∙ all (stands key rs))
request_settled key k rs xo bitmap (Some r) is = go r.state
  where
    go : (s : State) → Settled key rs (came_again rs k r (repeated k bitmap s))
    go (Waiting x old) = stays key rs (replaced (is_key k) (record r { state = Waiting x bitmap }) rs)
        (came_settled key k rs r (Waiting x bitmap) is)
    go (Answered packets) = stays key rs (replaced (is_key k) (record r { state = Answered packets }) rs)
        (came_settled key k rs r (Answered packets) is)
    go Released = stays key rs (replaced (is_key k) (record r { state = Released }) rs)
        (came_settled key k rs r Released is)

release_settled : (key k : Key) (rs : List Record) (o : Option Record) → find (is_key k) rs ≡ o
    → Settled key rs (release_came rs k o)
release_settled key k rs None is = stays key rs rs refl
release_settled key k rs (Some r) is = go r.state
  where
    go : (s : State) → Settled key rs (came_again rs k r (released s))
    go (Waiting xo bitmap) = stays key rs (replaced (is_key k) (record r { state = Waiting xo bitmap }) rs)
        (came_settled key k rs r (Waiting xo bitmap) is)
    go (Answered packets) = stays key rs (replaced (is_key k) (record r { state = Released }) rs)
        (came_settled key k rs r Released is)
    go Released = stays key rs (replaced (is_key k) (record r { state = Released }) rs)
        (came_settled key k rs r Released is)

taken_settled : (key : Key) (rs : List Record) (from : Address) (f : Content) → Settled key rs (received rs from f)
taken_settled key rs from (Response place eom sts tid user bytes) = stays key rs rs refl
taken_settled key rs from (Release tid) = release_settled key (record { from = from; tid = tid }) rs
    (find (is_key (record { from = from; tid = tid })) rs) refl
taken_settled key rs from (Request bitmap xo timer tid user bytes) = go (is_passed_over bitmap)
  where
    go : (b : Bool) → Settled key rs
        (cond b (passed rs) (request_came rs (record { from = from; tid = tid }) xo bitmap
        (find (is_key (record { from = from; tid = tid })) rs)))
    go true = stays key rs rs refl
    go false = request_settled key (record { from = from; tid = tid }) rs xo bitmap
        (find (is_key (record { from = from; tid = tid })) rs) refl

answer_adds_none : (key k : Key) (packets : List Packet) (rs : List Record) → stands key rs ≡ false
    → stands key (after_answer rs k packets) ≡ false
answer_adds_none key k packets rs h = go (is_kept (find (is_key k) rs))
  where
    go : (b : Bool) → stands key
        (cond b (replaced (is_key k) (record { key = k; state = Answered packets }) rs) (without_first (is_key k) rs))
        ≡ false
    go true = stands_replaced key k (record { key = k; state = Answered packets }) rs refl ∙ h
    go false = stands_without key (is_key k) rs h

unless_adds_none : (key : Key) (rs changed : List Record) (fault : Option AtpFault)
    → (stands key rs ≡ false → stands key changed ≡ false) → stands key rs ≡ false
    → stands key (unless rs fault changed) ≡ false
unless_adds_none key rs changed None f h = f h
unless_adds_none key rs changed (Some fault) f h = h

balanced : (key : Key) (rs : List Record) (e : Event)
    → Balanced (hands_up key rs e) (stands key rs) (stands key (next rs e))
balanced key rs (Comes from f) = (taken_settled key rs from f).0
balanced key rs (Answers k packets) = none_new (stands key rs) (stands key (next rs (Answers k packets)))
    (unless_adds_none key rs (after_answer rs k packets) (answer_fault rs k packets)
    (answer_adds_none key k packets rs))
balanced key rs (Expires k) = none_new (stands key rs) (stands key (next rs (Expires k)))
    (unless_adds_none key rs (without_first (is_key k) rs) (expiry_fault (find (is_key k) rs))
    (stands_without key (is_key k) rs))
balanced key rs (Undoes k) = none_new (stands key rs) (stands key (next rs (Undoes k)))
    (unless_adds_none key rs (without_first (is_key k) rs) (record_fault (find (is_key k) rs))
    (stands_without key (is_key k) rs))

-- ---- all events

abbrev next_all : List Record → List Event → List Record
next_all rs [] = rs
next_all rs (e ∷ es) = next_all (next rs e) es

-- each hand-up makes a record, and each removal takes one away
balance : (key : Key) (rs : List Record) (es : List Event) → hand_ups key rs es + once_if (stands key rs)
    ≡ removals key rs es + once_if (stands key (next_all rs es))
balance key rs [] = refl
balance key rs (e ∷ es) = omega (arith, balanced key rs e, balance key (next rs e) es)

one_at_most : (b : Bool) → once_if b ≤ 1
one_at_most true = omega arith
one_at_most false = omega arith

pub handed_up_once : (key : Key) (rs : List Record) (es : List Event) → hand_ups key rs es ≤ removals key rs es + 1
handed_up_once key rs es = omega (arith, balance key rs es, one_at_most (stands key (next_all rs es)))

pub not_handed_up : (key : Key) (rs : List Record) (es : List Event) → stands key rs ≡ true
    → hand_ups key rs es ≤ removals key rs es
not_handed_up key rs es h = let one : once_if (stands key rs)
    ≡ 1 = ap once_if h in omega (arith, balance key rs es, one_at_most (stands key (next_all rs es)), one)

-- ---- records for exactly-once

-- a record that stands still was not removed
not_removed : (before then : Bool) → then ≡ before → (before && not then) ≡ true → ⊥
not_removed true true same h = true≢false (sym h)
not_removed true false same h = true≢false (sym same)
not_removed false then same h = true≢false (sym h)

both_stand : (before then : Bool) → (before ≡ true → then ≡ true) → (before && not then) ≡ true → ⊥
both_stand true then f h = not_removed true then (f refl) h
both_stand false then f h = true≢false (sym h)

-- an answer leaves the record of a request for exactly-once standing
answer_keeps : (key k : Key) (packets : List Packet) (rs : List Record) (r : Record) → find (is_key key) rs ≡ Some r
    → is_once r.state ≡ true → record_fault (find (is_key k) rs) ≡ None → stands key (after_answer rs k packets)
    ≡ stands key rs
answer_keeps key k packets rs r is once free = go (is_kept (find (is_key k) rs)) refl
  where
    kept : (s : State) → is_once s ≡ true → record_fault (Some (record { key = key; state = s })) ≡ None
        → is_kept (Some (record { key = key; state = s })) ≡ true
    kept (Waiting xo bitmap) o f = o
    kept (Answered packets) o f = absurd (cc)
    kept Released o f = absurd (cc)

    go : (b : Bool) → is_kept (find (is_key k) rs) ≡ b
        → stands key (cond b (replaced (is_key k) (record { key = k; state = Answered packets }) rs)
        (without_first (is_key k) rs)) ≡ stands key rs
    go true e = stands_replaced key k (record { key = k; state = Answered packets }) rs refl
    go false e = of (same_key k key) refl
      where
        of : (b : Bool) → same_key k key ≡ b → stands key (without_first (is_key k) rs) ≡ stands key rs
        of false other = stays_without key k rs other
        of true same =
            let there : find (is_key k) rs
            ≡ Some r = ap (λ x. find (is_key x) rs) (own key (record { key = k; state = Released }) same) ∙ is in
            absurd (true≢false (sym (kept r.state once (ap record_fault (sym there) ∙ free))
            ∙ (ap is_kept (sym there) ∙ e)))

-- a record that is taken away is that of its key
taken_away : (key k : Key) (rs : List Record) (fault : Option AtpFault)
    → (stands key rs && not (stands key (unless rs fault (without_first (is_key k) rs)))) ≡ true → k ≡ key
taken_away key k rs (Some fault) h = absurd (not_removed (stands key rs) (stands key rs) refl h)
taken_away key k rs None h = go (same_key k key) refl
  where
    go : (b : Bool) → same_key k key ≡ b → k ≡ key
    go true same = own key (record { key = k; state = Released }) same
    go false other = absurd (not_removed (stands key rs) (stands key (without_first (is_key k) rs))
        (stays_without key k rs other) h)

pub removed_by : (key : Key) (rs : List Record) (r : Record) (e : Event) → find (is_key key) rs ≡ Some r
    → is_once r.state ≡ true → removes key rs e ≡ true → (e ≡ Expires key) ⊎ (e ≡ Undoes key)
removed_by key rs r (Comes from f) is once h =
    absurd (both_stand (stands key rs) (stands key (received rs from f).after) (taken_settled key rs from f).1 h)
removed_by key rs r (Answers k packets) is once h = absurd (go (answer_fault rs k packets) refl h)
  where
    go : (o : Option AtpFault) → answer_fault rs k packets ≡ o
        → (stands key rs && not (stands key (unless rs o (after_answer rs k packets)))) ≡ true → ⊥
    go (Some fault) e g = not_removed (stands key rs) (stands key rs) refl g
    go None e g = not_removed (stands key rs) (stands key (after_answer rs k packets))
        (answer_keeps key k packets rs r is once (answerable rs k packets e)) g
removed_by key rs r (Expires k) is once h = inl (ap Expires (taken_away key k rs (expiry_fault (find (is_key k) rs)) h))
removed_by key rs r (Undoes k) is once h = inr (ap Undoes (taken_away key k rs (record_fault (find (is_key k) rs)) h))

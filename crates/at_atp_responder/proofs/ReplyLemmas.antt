-- What a responder sends for a request is of the answer to it.
use Rattle.std.proofs.Common.{◌≡◌, ℕ, ◌+◌, Bool, true, false, cond, List, [], ◌∷◌, ◌++◌, length, Option, Some, None}
use Rattle.std.proofs.Common.{refl, sym, ap, subst, ◌∙◌, arith}
use Rattle.std.specs.Prelude.{find, is_some, is_none, slice_get, ◌&&◌, ◌==◌, ◌/◌, ◌%◌}
use Rattle.std.specs.List.{AllByRecursion}
use Rattle.at_ddp.specs.declared.address.Address.{Address}
use Rattle.at_ddp.specs.Tables.{replaced, without_first}
use Rattle.at_ddp.proofs.Alls.{all_both, all_implied}
use Rattle.at_ddp.proofs.PartLemmas.{there, length_at, moved_on, is_last}
use Rattle.at_atp_frame.specs.Frames.{Content, Request, Response, Release, number_of}
use Rattle.at_atp_frame.specs.Packets.{Packet}
use Rattle.at_atp_frame.specs.declared.fault.AtpFault.{AtpFault}
use Rattle.at_atp_responder.specs.declared.reception.Key.{Key}
use Rattle.at_atp_responder.specs.Once.{Event, Comes, Answers, Expires, Undoes, unless, next, same_key, stands}
use Rattle.at_atp_responder.specs.Records.{State, Waiting, Answered, Released, Record, is_key, responses, repeated}
use Rattle.at_atp_responder.specs.Records.{released, request_came, release_came, passed, is_passed_over, received}
use Rattle.at_atp_responder.specs.Records.{record_fault, answer_fault, is_kept, after_answer, expiry_fault, asked_for}
use Rattle.at_atp_responder.specs.Records.{asked_bitmap}
use Rattle.at_atp_responder.specs.Replies.{sent_unless, sent_by, answer_during, answer_left, IsPacketOf, IsOfAnswer}
use Rattle.at_atp_responder.specs.Replies.{AllOfAnswer}
use Rattle.at_atp_responder.proofs.SoleRecords.{HasAnswer, Sole, one_key, none_sole, sole_found, sole_last, sole_other}
use Rattle.at_atp_responder.proofs.SoleRecords.{sole_set, sole_but, sole_gone, sole_changed}

-- ---- the records after an event

repeated_has : (k : Key) (bitmap : ℕ) (s : State) (a : Option (List Packet)) → HasAnswer s a
    → HasAnswer (repeated k bitmap s).state a
repeated_has k bitmap (Waiting xo old) a h = h
repeated_has k bitmap (Answered packets) a h = h
repeated_has k bitmap Released a h = h

released_has : (s : State) (a : Option (List Packet)) → HasAnswer s a → HasAnswer (released s).state a
released_has (Waiting xo bitmap) a h = h
released_has (Answered packets) a h = tt
released_has Released a h = h

request_sole : (key k : Key) (a : Option (List Packet)) (rs : List Record) (xo : Bool) (bitmap : ℕ) (o : Option Record)
    → find (is_key k) rs ≡ o → Sole key a rs → Sole key a (request_came rs k xo bitmap o).after
request_sole key k a rs xo bitmap None none h = sole_last key a (record { key = k; state = Waiting xo bitmap }) rs h
    (λ e. (tt, ap (λ x. stands x rs) (sym (one_key key k e)) ∙ ap is_some none))
request_sole key k a rs xo bitmap (Some r) is h = sole_changed key k a r (repeated k bitmap r.state).state rs is
    (repeated_has k bitmap r.state a) h

release_sole : (key k : Key) (a : Option (List Packet)) (rs : List Record) (o : Option Record) → find (is_key k) rs ≡ o
    → Sole key a rs → Sole key a (release_came rs k o).after
release_sole key k a rs None is h = h
release_sole key k a rs (Some r) is h = sole_changed key k a r (released r.state).state rs is (released_has r.state a) h

taken_sole : (key : Key) (a : Option (List Packet)) (rs : List Record) (from : Address) (f : Content) → Sole key a rs
    → Sole key a (received rs from f).after
taken_sole key a rs from (Response place eom sts tid user bytes) h = h
taken_sole key a rs from (Release tid) h = release_sole key (record { from = from; tid = tid }) a rs
    (find (is_key (record { from = from; tid = tid })) rs) refl h
taken_sole key a rs from (Request bitmap xo timer tid user bytes) h = go (is_passed_over bitmap)
  where
    go : (b : Bool) → Sole key a
        (cond b (passed rs) (request_came rs (record { from = from; tid = tid }) xo bitmap
        (find (is_key (record { from = from; tid = tid })) rs))).after
    go true = h
    go false = request_sole key (record { from = from; tid = tid }) a rs xo bitmap
        (find (is_key (record { from = from; tid = tid })) rs) refl h

given_sole : (key : Key) (a : Option (List Packet)) (packets : List Packet) (rs : List Record) → Sole key a rs
    → Sole key (Some packets) (after_answer rs key packets)
given_sole key a packets rs h = go (is_kept (find (is_key key) rs))
  where
    go : (b : Bool) → Sole key (Some packets)
        (cond b (replaced (is_key key) (record { key = key; state = Answered packets }) rs)
        (without_first (is_key key) rs))
    go true = sole_set key a (Some packets) (record { key = key; state = Answered packets }) rs refl refl h
    go false = none_sole key (Some packets) (without_first (is_key key) rs) (sole_gone key a rs h)

unlike_sole : (key k : Key) (a : Option (List Packet)) (packets : List Packet) (rs : List Record) → same_key k key
    ≡ false → Sole key a rs → Sole key a (after_answer rs k packets)
unlike_sole key k a packets rs other h = go (is_kept (find (is_key k) rs))
  where
    go : (b : Bool) → Sole key a
        (cond b (replaced (is_key k) (record { key = k; state = Answered packets }) rs) (without_first (is_key k) rs))
    go true = sole_other key k a (record { key = k; state = Answered packets }) rs refl other h
    go false = sole_but key k a rs other h

answer_sole : (key k : Key) (a : Option (List Packet)) (packets : List Packet) (rs : List Record) (o : Option AtpFault)
    → Sole key a rs → Sole key (cond (same_key k key && is_none o) (Some packets) a)
    (unless rs o (after_answer rs k packets))
answer_sole key k a packets rs (Some fault) h = go (same_key k key)
  where
    go : (b : Bool) → Sole key (cond (b && false) (Some packets) a) rs
    go true = h
    go false = h
answer_sole key k a packets rs None h = go (same_key k key) refl
  where
    go : (b : Bool) → same_key k key ≡ b → Sole key (cond (b && true) (Some packets) a) (after_answer rs k packets)
    go true e = subst (λ x. Sole key (Some packets) (after_answer rs x packets)) (sym (one_key key k e))
        (given_sole key a packets rs h)
    go false e = unlike_sole key k a packets rs e h

gone_sole : (key k : Key) (a : Option (List Packet)) (rs : List Record) (o : Option AtpFault) → Sole key a rs
    → Sole key a (unless rs o (without_first (is_key k) rs))
gone_sole key k a rs (Some fault) h = h
gone_sole key k a rs None h = go (same_key k key) refl
  where
    go : (b : Bool) → same_key k key ≡ b → Sole key a (without_first (is_key k) rs)
    go true e = subst (λ x. Sole key a (without_first (is_key x) rs)) (sym (one_key key k e))
        (none_sole key a (without_first (is_key key) rs) (sole_gone key a rs h))
    go false e = sole_but key k a rs e h

next_sole : (key : Key) (a : Option (List Packet)) (rs : List Record) (e : Event) → Sole key a rs
    → Sole key (answer_during key rs a e) (next rs e)
next_sole key a rs (Comes from f) h = taken_sole key a rs from f h
next_sole key a rs (Answers k packets) h = answer_sole key k a packets rs (answer_fault rs k packets) h
next_sole key a rs (Expires k) h = gone_sole key k a rs (expiry_fault (find (is_key k) rs)) h
next_sole key a rs (Undoes k) h = gone_sole key k a rs (record_fault (find (is_key k) rs)) h

after_sole : (key : Key) (a : Option (List Packet)) (rs : List Record) (e : Event) → Sole key a rs
    → Sole key (answer_left key rs a e) (next rs e)
after_sole key a rs e h = go (stands key (next rs e)) refl
  where
    go : (b : Bool) → stands key (next rs e) ≡ b → Sole key (cond b (answer_during key rs a e) None) (next rs e)
    go true g = next_sole key a rs e h
    go false g = none_sole key None (next rs e) g

-- ---- what is sent

-- a packet of this answer, under this key
abbrev IsOf : Key → List Packet → Address × Content → Type 0
IsOf key answer s = (s.0 ≡ key.from) × (number_of s.1 ≡ key.tid) × IsPacketOf answer s.1

responses_of : (key : Key) (answer before rest : List Packet) (place bitmap : ℕ) → answer ≡ before ++ rest → place
    ≡ length before → AllByRecursion (IsOf key answer) (responses key place bitmap rest)
responses_of key answer before [] place bitmap is here = tt
responses_of key answer before (p ∷ ps) place bitmap is here =
    all_both (IsOf key answer)
    (cond (bitmap % 2 == 1) ((key.from, Response place (length ps == 0) false key.tid p.user p.data_) ∷ []) [])
    (responses key (place + 1) (bitmap / 2) ps)
    (go (bitmap % 2 == 1))
    (responses_of key answer (before ++ p ∷ []) ps (place + 1) (bitmap / 2) (is ∙ moved_on before p ps)
    (omega (arith, here, length_at before p [])))
  where
    at : slice_get answer place ≡ Some p
    at = (λ i. slice_get (is i) (here i)) ∙ there before p ps

    last : (length ps == 0) ≡ (place + 1 == length answer)
    last = is_last (length ps) place (length answer) (omega (arith, ap length is, length_at before p ps, here))

    go : (b : Bool) → AllByRecursion (IsOf key answer)
        (cond b ((key.from, Response place (length ps == 0) false key.tid p.user p.data_) ∷ []) [])
    go true = ((refl, refl, (at, last, refl)), tt)
    go false = tt

of_answer : (key k : Key) (a : Option (List Packet)) (answer : List Packet) → (same_key k key ≡ true → a ≡ Some answer)
    → (s : Address × Content) → IsOf k answer s → IsOfAnswer key a s
of_answer key k a answer given s h =
    let same : record { from = s.0; tid = number_of s.1 } ≡ k = λ i. record { from = h.0 i; tid = h.1 i } in
    λ e. (answer, given (sym (ap (λ x. same_key x key) same) ∙ e), h.2)

all_of : (key k : Key) (a : Option (List Packet)) (answer : List Packet) (bitmap : ℕ)
    → (same_key k key ≡ true → a ≡ Some answer) → AllByRecursion (IsOfAnswer key a) (responses k 0 bitmap answer)
all_of key k a answer bitmap given = all_implied (IsOf k answer) (IsOfAnswer key a) (responses k 0 bitmap answer)
    (of_answer key k a answer given) (responses_of k answer [] answer 0 bitmap refl refl)

repeated_sends : (key k : Key) (a : Option (List Packet)) (bitmap : ℕ) (s : State)
    → (same_key k key ≡ true → HasAnswer s a) → AllByRecursion (IsOfAnswer key a) (repeated k bitmap s).sent
repeated_sends key k a bitmap (Waiting xo old) has = tt
repeated_sends key k a bitmap (Answered packets) has = all_of key k a packets bitmap has
repeated_sends key k a bitmap Released has = tt

request_sends : (key k : Key) (a : Option (List Packet)) (rs : List Record) (xo : Bool) (bitmap : ℕ)
    (o : Option Record) → find (is_key k) rs ≡ o → Sole key a rs
    → AllByRecursion (IsOfAnswer key a) (request_came rs k xo bitmap o).sent
request_sends key k a rs xo bitmap None is h = tt
request_sends key k a rs xo bitmap (Some r) is h =
    repeated_sends key k a bitmap r.state
    (λ e. sole_found key a rs r (ap (λ x. find (is_key x) rs) (sym (one_key key k e)) ∙ is) h)

release_sends : (key k : Key) (a : Option (List Packet)) (rs : List Record) (o : Option Record)
    → AllByRecursion (IsOfAnswer key a) (release_came rs k o).sent
release_sends key k a rs None = tt
release_sends key k a rs (Some r) = go r.state
  where
    go : (s : State) → AllByRecursion (IsOfAnswer key a) (released s).sent
    go (Waiting xo bitmap) = tt
    go (Answered packets) = tt
    go Released = tt

taken_sends : (key : Key) (a : Option (List Packet)) (rs : List Record) (from : Address) (f : Content) → Sole key a rs
    → AllByRecursion (IsOfAnswer key a) (received rs from f).sent
taken_sends key a rs from (Response place eom sts tid user bytes) h = tt
taken_sends key a rs from (Release tid) h = release_sends key (record { from = from; tid = tid }) a rs
    (find (is_key (record { from = from; tid = tid })) rs)
taken_sends key a rs from (Request bitmap xo timer tid user bytes) h = go (is_passed_over bitmap)
  where
    go : (b : Bool) → AllByRecursion (IsOfAnswer key a)
        (cond b (passed rs) (request_came rs (record { from = from; tid = tid }) xo bitmap
        (find (is_key (record { from = from; tid = tid })) rs))).sent
    go true = tt
    go false = request_sends key (record { from = from; tid = tid }) a rs xo bitmap
        (find (is_key (record { from = from; tid = tid })) rs) refl h

asked_sends : (key k : Key) (a : Option (List Packet)) (packets : List Packet) (o : Option Record)
    → (same_key k key ≡ true → a ≡ Some packets) → AllByRecursion (IsOfAnswer key a) (asked_for o k packets)
asked_sends key k a packets None given = tt
asked_sends key k a packets (Some r) given = all_of key k a packets (asked_bitmap r.state) given

answer_sends : (key k : Key) (a : Option (List Packet)) (packets : List Packet) (rs : List Record)
    (o : Option AtpFault) → AllByRecursion (IsOfAnswer key (cond (same_key k key && is_none o) (Some packets) a))
    (sent_unless o (asked_for (find (is_key k) rs) k packets))
answer_sends key k a packets rs (Some fault) = tt
answer_sends key k a packets rs None = asked_sends key k (cond (same_key k key && true) (Some packets) a) packets
    (find (is_key k) rs) (ap (λ b. cond (b && true) (Some packets) a))

sends : (key : Key) (a : Option (List Packet)) (rs : List Record) (e : Event) → Sole key a rs
    → AllByRecursion (IsOfAnswer key (answer_during key rs a e)) (sent_by rs e)
sends key a rs (Comes from f) h = taken_sends key a rs from f h
sends key a rs (Answers k packets) h = answer_sends key k a packets rs (answer_fault rs k packets)
sends key a rs (Expires k) h = tt
sends key a rs (Undoes k) h = tt

-- ---- all events

all_sent : (key : Key) (a : Option (List Packet)) (rs : List Record) (es : List Event) → Sole key a rs
    → AllOfAnswer key rs a es
all_sent key a rs [] h = tt
all_sent key a rs (e ∷ es) h =
    (sends key a rs e h, all_sent key (answer_left key rs a e) (next rs e) es (after_sole key a rs e h))

pub all_of_answer : (key : Key) (es : List Event) → AllOfAnswer key [] None es
all_of_answer key es = all_sent key None [] es tt

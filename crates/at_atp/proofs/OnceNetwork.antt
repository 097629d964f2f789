-- What each happening keeps true of the exactly-once transactions of a network, if records live long enough.
use Rattle.std.proofs.Common.{◌≡◌, ℕ, Bool, true, false, cond, List, [], ◌∷◌, Some, None, refl, sym, ap, subst, ◌∙◌}
use Rattle.std.specs.Prelude.{find, ◌&&◌, ◌||◌}
use Rattle.at_ddp.specs.Address.{same_address}
use Rattle.at_ddp.specs.declared.address.Address.{Address}
use Rattle.at_ddp.proofs.Octets.{same_address-true}
use Rattle.at_atp_frame.specs.Frames.{Content, Request, Response, Release, number_of}
use Rattle.at_ddp.specs.Posts.{put}
use Rattle.at_atp_responder.specs.Once.{same_key, is_new_of}
use Rattle.at_atp_frame.specs.Packets.{Packet}
use Rattle.at_atp_responder.specs.Records.{Record, is_key, Received, passed, request_came, is_passed_over, received}
use Rattle.at_atp_responder.specs.Records.{record_fault, after_answer, expiry_fault}
use Rattle.at_ddp.specs.Tables.{without_first}
use Rattle.at_ddp.proofs.PostLemmas.{put_here}
use Rattle.at_atp.specs.Transactions.{Transaction, transaction_of, Asked, answered}
use Rattle.at_atp_responder.specs.declared.reception.Key.{Key}
use Rattle.at_atp.proofs.Carried.{Tells}
use Rattle.at_atp.proofs.KeyedRecords.{one_key, those, none_those, others_without}
use Rattle.at_atp.proofs.Newest.{joined, joined_exactly, others_unanswered}
use Rattle.at_atp.proofs.Stages.{Stage, more_if, request_staged, release_staged, release_not_new, answer_staged}
use Rattle.at_atp.proofs.Stages.{expiry_staged, others_answered, others_taken}
use Rattle.std.proofs.lemmas.Option.{same_Some}

-- each exactly-once transaction that is the newest of its number is at some stage, by the records of its responder
abbrev pub EachOnce : List Transaction → (Address → List Record) → (Key → ℕ) → (Address → Key → Bool) → Type 0
EachOnce asked responders hands expired = (key : Key) (at : Address) (a : Asked asked key.from key.tid at)
    → a.transaction.xo ≡ true → Stage a.transaction.answers (hands key) (expired at key) (those key (responders at))

-- ---- one responder that changes

-- if nothing changes of a key's records at the responder, nothing changes anywhere
those_put : (key : Key) (responders : Address → List Record) (place : Address) (rs : List Record) (at : Address)
    → those key rs ≡ those key (responders place) → those key (put responders place rs at) ≡ those key (responders at)
those_put key responders place rs at same = go (same_address place at) refl
  where
    go : (b : Bool) → same_address place at ≡ b → those key (cond b rs (responders at)) ≡ those key (responders at)
    go true e = same ∙ ap (λ x. those key (responders x)) (same_address-true place at e)
    go false e = refl

-- ---- packets

-- a request in time goes to the responder of the newest transaction of its number, and is exactly-once if that is
asks_there : (asked : List Transaction) (key : Key) (place at : Address) (t : Asked asked key.from key.tid place)
    (a : Asked asked key.from key.tid at) → (t.transaction ≡ a.transaction) × (place ≡ at)
asks_there asked key place at t a =
    let same : t.transaction ≡ a.transaction = same_Some t.transaction a.transaction (sym t.newest ∙ a.newest) in
    (same, sym t.asked_it ∙ ap (λ x. x.responder) same ∙ a.asked_it)

-- a request that comes finds that its record did not expire
abbrev pub IsAlive : (Address → Key → Bool) → Address → Address → Content → Type 0
IsAlive expired from at (Request mask xo timer tid user bytes) = expired at (record { from = from; tid = tid }) ≡ false
IsAlive expired from at (Response place eom sts tid user bytes) = Unit {0}
IsAlive expired from at (Release tid) = Unit {0}

-- the stage after a packet
abbrev Left : (Key → ℕ) → (Address → Key → Bool) → Key → Received → List (List Packet) → Address → List Record → Type 0
Left hands expired key t answers at rs = Stage answers (more_if (is_new_of key t.reception) (hands key))
    (expired at key) (those key rs)

abbrev Comes : List Transaction → (Address → List Record) → (Key → ℕ) → (Address → Key → Bool) → Address → Address
    → Content → Key → Address → Type 0
Comes asked responders hands expired from place f key at = (a : Asked asked key.from key.tid at) → a.transaction.xo
    ≡ true → Stage a.transaction.answers (hands key) (expired at key) (those key (responders at)) →
    Left hands expired key (received (responders place) from f) a.transaction.answers at
    (put responders place (received (responders place) from f).after at)

other_comes : (asked : List Transaction) (responders : Address → List Record) (hands : Key → ℕ)
    (expired : Address → Key → Bool) (from place : Address) (f : Content) (key : Key) (at : Address)
    → same_key (record { from = from; tid = number_of f }) key ≡ false →
    Comes asked responders hands expired from place f key at
other_comes asked responders hands expired from place f key at other = λ a xo stage.
    let quiet = others_taken key (responders place) from f other in
    subst (λ b. Stage a.transaction.answers (more_if b (hands key)) (expired at key)
    (those key (put responders place (received (responders place) from f).after at))) (sym quiet.0)
    (subst (Stage a.transaction.answers (hands key) (expired at key))
    (sym (those_put key responders place (received (responders place) from f).after at quiet.1)) stage)

-- a packet of its own key
release_comes : (asked : List Transaction) (responders : Address → List Record) (hands : Key → ℕ)
    (expired : Address → Key → Bool) (place : Address) (key : Key) (at : Address)
    → Comes asked responders hands expired key.from place (Release key.tid) key at
release_comes asked responders hands expired place key at =
    λ a xo stage. go a.transaction.answers stage (same_address place at) refl
  where
    go : (answers : List (List Packet)) → Stage answers (hands key) (expired at key) (those key (responders at))
        → (b : Bool) → same_address place at ≡ b →
        Stage answers (more_if (is_new_of key (received (responders place) key.from (Release key.tid)).reception)
        (hands key)) (expired at key)
        (those key (cond b (received (responders place) key.from (Release key.tid)).after (responders at)))
    go answers stage true e =
        release_staged key (responders place) answers (hands key) (expired at key)
        (subst (λ x. Stage answers (hands key) (expired at key) (those key (responders x)))
        (sym (same_address-true place at e)) stage)
    go answers stage false e =
        subst (λ b. Stage answers (more_if b (hands key)) (expired at key) (those key (responders at)))
        (sym (release_not_new key key (responders place) (find (is_key key) (responders place)))) stage

request_comes : (asked : List Transaction) (responders : Address → List Record) (hands : Key → ℕ)
    (expired : Address → Key → Bool) (place : Address) (key : Key) (at : Address) (mask : ℕ) (xo : Bool) (timer : ℕ)
    (user bytes : List ℕ) → (t : Asked asked key.from key.tid place) → t.transaction.xo ≡ xo → expired place key
    ≡ false →
    Comes asked responders hands expired key.from place (Request mask xo timer key.tid user bytes) key at
request_comes asked responders hands expired place key at mask xo timer user bytes t is alive = λ a once stage.
    let same = asks_there asked key place at t a in
    let came = received (responders place) key.from (Request mask xo timer key.tid user bytes) in
    subst (λ x. Left hands expired key came a.transaction.answers x (put responders place came.after x)) same.1
    (subst (Left hands expired key came a.transaction.answers place) (sym (put_here responders place came.after))
    (go a.transaction.answers (sym is ∙ ap (λ x. x.xo) same.0 ∙ once)
    (subst (λ x. Stage a.transaction.answers (hands key) (expired x key) (those key (responders x)))
    (sym same.1) stage) (is_passed_over mask)))
  where
    go : (answers : List (List Packet)) → xo ≡ true
        → Stage answers (hands key) (expired place key) (those key (responders place)) → (b : Bool) →
        Stage answers (more_if (is_new_of key
        (cond b (passed (responders place))
        (request_came (responders place) key xo mask (find (is_key key) (responders place)))).reception)
        (hands key)) (expired place key)
        (those key (cond b (passed (responders place))
        (request_came (responders place) key xo mask (find (is_key key) (responders place)))).after)
    go answers once stage true = stage
    go answers once stage false = request_staged key (responders place) xo mask answers (hands key)
        (expired place key) once alive stage

own_comes : (asked : List Transaction) (responders : Address → List Record) (hands : Key → ℕ)
    (expired : Address → Key → Bool) (from place : Address) (f : Content) (at : Address) → Tells asked from place f
    → IsAlive expired from place f →
    Comes asked responders hands expired from place f (record { from = from; tid = number_of f }) at
own_comes asked responders hands expired from place (Response i eom sts tid user bytes) at tells alive = λ a xo stage.
    subst (Stage a.transaction.answers (hands (record { from = from; tid = tid }))
    (expired at (record { from = from; tid = tid })))
    (sym (those_put (record { from = from; tid = tid }) responders place (responders place) at refl)) stage
own_comes asked responders hands expired from place (Release tid) at tells alive =
    release_comes asked responders hands expired place (record { from = from; tid = tid }) at
own_comes asked responders hands expired from place (Request mask xo timer tid user bytes) at tells alive =
    request_comes asked responders hands expired place (record { from = from; tid = tid }) at mask xo timer user bytes
    tells.0 tells.3 alive

pub comes_once : (asked : List Transaction) (responders : Address → List Record) (hands : Key → ℕ)
    (expired : Address → Key → Bool) (from place : Address) (f : Content) → Tells asked from place f
    → IsAlive expired from place f → EachOnce asked responders hands expired →
    EachOnce asked (put responders place (received (responders place) from f).after)
    (λ key. more_if (is_new_of key (received (responders place) from f).reception) (hands key)) expired
comes_once asked responders hands expired from place f tells alive each =
    λ key at a xo. go key at (same_key (record { from = from; tid = number_of f }) key) refl a xo (each key at a xo)
  where
    go : (key : Key) (at : Address) (b : Bool) → same_key (record { from = from; tid = number_of f }) key ≡ b
        → Comes asked responders hands expired from place f key at
    go key at true e = subst (λ k. Comes asked responders hands expired from place f k at)
        (one_key (record { from = from; tid = number_of f }) key e)
        (own_comes asked responders hands expired from place f at tells alive)
    go key at false e = other_comes asked responders hands expired from place f key at e

-- ---- answers

pub answered_once : (asked : List Transaction) (responders : Address → List Record) (hands : Key → ℕ)
    (expired : Address → Key → Bool) (place : Address) (k : Key) (packets : List Packet)
    → Asked asked k.from k.tid place → record_fault (find (is_key k) (responders place)) ≡ None
    → EachOnce asked responders hands expired →
    EachOnce (answered asked k.from k.tid packets) (put responders place (after_answer (responders place) k packets))
    hands expired
answered_once asked responders hands expired place k packets asks free each =
    λ key at a xo. go key at a xo (same_key k key) refl
  where
    other : (key : Key) (at : Address) (a : Asked (answered asked k.from k.tid packets) key.from key.tid at)
        → a.transaction.xo ≡ true → same_key k key ≡ false →
        Stage a.transaction.answers (hands key) (expired at key)
        (those key (put responders place (after_answer (responders place) k packets) at))
    other key at a xo e =
        let before : Asked asked key.from key.tid at =
        record {
          transaction = a.transaction;
          newest = sym (others_unanswered asked k.from k.tid packets key.from key.tid e) ∙ a.newest;
          asked_it = a.asked_it;
        } in
        subst (Stage a.transaction.answers (hands key) (expired at key))
        (sym (those_put key responders place (after_answer (responders place) k packets) at
        (others_answered key k (responders place) packets e))) (each key at before xo)

    own : (at : Address) (a : Asked (answered asked k.from k.tid packets) k.from k.tid at) → a.transaction.xo ≡ true →
        Stage a.transaction.answers (hands k) (expired at k)
        (those k (put responders place (after_answer (responders place) k packets) at))
    own at a xo =
        let is : joined asks.transaction packets
        ≡ a.transaction = same_Some (joined asks.transaction packets) a.transaction
        (sym (joined_exactly asked k.from k.tid packets asks.transaction asks.newest) ∙ a.newest) in
        let there : place ≡ at = sym asks.asked_it ∙ ap (λ x. x.responder) is ∙ a.asked_it in
        subst (λ x. Stage a.transaction.answers (hands k) (expired x k)
        (those k (put responders place (after_answer (responders place) k packets) x))) there
        (subst (λ rs. Stage a.transaction.answers (hands k) (expired place k) (those k rs))
        (sym (put_here responders place (after_answer (responders place) k packets)))
        (subst (λ l. Stage l (hands k) (expired place k) (those k (after_answer (responders place) k packets)))
        (ap (λ x. x.answers) is)
        (answer_staged k (responders place) packets asks.transaction.answers (hands k) (expired place k) free
        (each k place asks (ap (λ x. x.xo) is ∙ xo)))))

    go : (key : Key) (at : Address) (a : Asked (answered asked k.from k.tid packets) key.from key.tid at)
        → a.transaction.xo ≡ true → (b : Bool) → same_key k key ≡ b →
        Stage a.transaction.answers (hands key) (expired at key)
        (those key (put responders place (after_answer (responders place) k packets) at))
    go key at a xo false e = other key at a xo e
    go key at a xo true e =
        subst (λ (x : Key). (y : Asked (answered asked k.from k.tid packets) x.from x.tid at) → y.transaction.xo ≡ true
        → Stage y.transaction.answers (hands x) (expired at x)
        (those x (put responders place (after_answer (responders place) k packets) at)))
        (one_key k key e) (own at) a xo

-- ---- expiries

pub expires_once : (asked : List Transaction) (responders : Address → List Record) (hands : Key → ℕ)
    (expired : Address → Key → Bool) (place : Address) (k : Key) → expiry_fault (find (is_key k) (responders place))
    ≡ None → EachOnce asked responders hands expired →
    EachOnce asked (put responders place (without_first (is_key k) (responders place))) hands
    (λ at key. same_address place at && same_key k key || expired at key)
expires_once asked responders hands expired place k free each =
    λ key at a xo. go a.transaction.answers key at (each key at a xo) (same_key k key) refl (same_address place at) refl
  where
    go : (answers : List (List Packet)) (key : Key) (at : Address)
        → Stage answers (hands key) (expired at key) (those key (responders at)) → (b : Bool) → same_key k key ≡ b
        → (c : Bool) → same_address place at ≡ c →
        Stage answers (hands key) (c && b || expired at key)
        (those key (cond c (without_first (is_key k) (responders place)) (responders at)))
    go answers key at stage b e false f = stage
    go answers key at stage false e true f =
        subst (Stage answers (hands key) (expired at key))
        (sym (others_without key k (responders place) e
        ∙ ap (λ x. those key (responders x)) (same_address-true place at f))) stage
    go answers key at stage true e true f =
        subst (λ x. Stage answers (hands key) true (those key (without_first (is_key x) (responders place))))
        (sym (one_key k key e))
        (expiry_staged key (responders place) answers (hands key) (expired at key)
        (subst (λ x. expiry_fault (find (is_key x) (responders place)) ≡ None) (one_key k key e) free)
        (subst (λ x. Stage answers (hands key) (expired at key) (those key (responders x)))
        (sym (same_address-true place at f)) stage))

-- ---- beginnings

pub begun_once : (asked : List Transaction) (responders : Address → List Record) (hands : Key → ℕ)
    (expired : Address → Key → Bool) (t : Transaction) → t.answers ≡ []
    → ((at : Address) → find (is_key (record { from = t.requester; tid = t.tid })) (responders at) ≡ None)
    → EachOnce asked responders hands expired →
    EachOnce (t ∷ asked) responders
    (λ key. cond (same_key (record { from = t.requester; tid = t.tid }) key) 0 (hands key))
    (λ at key. cond (same_key (record { from = t.requester; tid = t.tid }) key) false (expired at key))
begun_once asked responders hands expired t fresh none each = λ key at a xo. go key at a.transaction a.asked_it xo
    (same_key (record { from = t.requester; tid = t.tid }) key) refl a.newest
  where
    go : (key : Key) (at : Address) (u : Transaction) → u.responder ≡ at → u.xo ≡ true → (b : Bool)
        → same_key (record { from = t.requester; tid = t.tid }) key ≡ b
        → cond b (Some t) (transaction_of asked key.from key.tid) ≡ Some u →
        Stage u.answers (cond b 0 (hands key)) (cond b false (expired at key)) (those key (responders at))
    go key at u is xo false e newest = each key at (record { transaction = u; newest = newest; asked_it = is }) xo
    go key at u is xo true e newest =
        let nothing : those key (responders at)
        ≡ [] = subst (λ k. those k (responders at) ≡ [])
        (one_key (record { from = t.requester; tid = t.tid }) key e)
        (none_those (record { from = t.requester; tid = t.tid }) (responders at) (none at)) in
        subst (Stage u.answers 0 false) (sym nothing) (refl, sym (ap (λ x. x.answers) (same_Some t u newest)) ∙ fresh)

-- How far an exactly-once transaction is, by the record of its request at the responder.
use Rattle.std.proofs.Common.{◌≡◌, ℕ, ◌+◌, Bool, true, false, cond, List, [], ◌∷◌, ◌++◌, length, Option, Some, None}
use Rattle.std.proofs.Common.{refl, sym, ap, subst, ◌∙◌, arith}
use Rattle.std.specs.Prelude.{find}
use Rattle.at_ddp.specs.declared.address.Address.{Address}
use Rattle.at_atp_frame.specs.Frames.{Content, Request, Response, Release, number_of}
use Rattle.at_atp_responder.specs.Once.{same_key, is_new_of}
use Rattle.at_atp_frame.specs.Packets.{Packet}
use Rattle.at_atp_responder.specs.Records.{State, Waiting, Answered, Released, Record, Repeat, Received, is_key}
use Rattle.at_atp_responder.specs.Records.{repeated}
use Rattle.at_atp_responder.specs.Records.{released, came_again, request_came, release_came, passed, is_passed_over}
use Rattle.at_atp_responder.specs.Records.{received, record_fault, state_fault, is_kept, keeps_answer, after_answer}
use Rattle.at_atp_responder.specs.Records.{expiry_fault, expiry_fault_of}
use Rattle.at_ddp.specs.Tables.{replaced, without_first}
use Rattle.at_atp_responder.specs.declared.reception.Key.{Key}
use Rattle.at_atp.proofs.KeyedRecords.{same_itself, those, first, first_set, rest, find_those, those_first, those_last}
use Rattle.at_atp.proofs.KeyedRecords.{those_replaced, those_without, others_last, others_replaced, others_without}
use Rattle.at_ddp.proofs.Alls.{found_passes}

-- the answers that were given, by what became of the request
abbrev pub Given : List (List Packet) → State → Type 0
Given answers (Waiting xo mask) = (xo ≡ true) × (answers ≡ [])
Given answers (Answered packets) = answers ≡ packets ∷ []
Given answers Released = length answers ≡ 1

-- without a record: nothing happened yet, or all did and the record expired
abbrev pub Gone : List (List Packet) → ℕ → Bool → Type 0
Gone answers hands false = (hands ≡ 0) × (answers ≡ [])
Gone answers hands true = (hands ≡ 1) × (length answers ≡ 1)

abbrev pub Stage : List (List Packet) → ℕ → Bool → List Record → Type 0
Stage answers hands expired [] = Gone answers hands expired
Stage answers hands expired (r ∷ []) = (expired ≡ false) × (hands ≡ 1) × Given answers r.state
Stage answers hands expired (r ∷ q ∷ rs) = ⊥

-- one delivery more, or not
abbrev pub more_if : Bool → ℕ → ℕ
more_if b n = cond b (n + 1) n

-- ---- a packet of this key comes

abbrev IsStaged : Key → List (List Packet) → ℕ → Bool → Received → Type 0
IsStaged key answers hands expired t = Stage answers (more_if (is_new_of key t.reception) hands) expired
    (those key t.after)

its_record : (key : Key) (rs : List Record) (r : Record) (l : List Record) → those key rs ≡ r ∷ l → is_key key r ≡ true
its_record key rs r l is = found_passes (is_key key) rs r (find_those key rs ∙ ap first is)

again_staged : (key : Key) (rs : List Record) (r : Record) (e : Repeat) (answers : List (List Packet)) (hands : ℕ)
    (expired : Bool) → those key rs ≡ r ∷ [] → is_new_of key e.reception ≡ false → expired ≡ false → hands ≡ 1
    → Given answers e.state →
    IsStaged key answers hands expired (came_again rs key r e)
again_staged key rs r e answers hands expired is old alive one given =
    subst (λ b. Stage answers (more_if b hands) expired
    (those key (replaced (is_key key) (record r { state = e.state }) rs))) (sym old)
    (subst (Stage answers hands expired)
    (sym (those_replaced key (record r { state = e.state }) rs (its_record key rs r [] is)
    ∙ ap (first_set (record r { state = e.state })) is)) (alive, one, given))

pub request_staged : (key : Key) (rs : List Record) (xo : Bool) (mask : ℕ) (answers : List (List Packet)) (hands : ℕ)
    (expired : Bool) → xo ≡ true → expired ≡ false → Stage answers hands expired (those key rs) →
    IsStaged key answers hands expired (request_came rs key xo mask (find (is_key key) rs))
request_staged key rs xo mask answers hands expired once alive stage = go (those key rs) refl stage
  where
    waits : Record
    waits = record { key = key; state = Waiting xo mask }

    again : (r : Record) → those key rs ≡ r ∷ [] → hands ≡ 1 → (s : State) → Given answers s
        → IsStaged key answers hands expired (came_again rs key r (repeated key mask s))
    again r is one (Waiting x old) given =
        again_staged key rs r (repeated key mask (Waiting x old)) answers hands expired is refl alive one given
    again r is one (Answered packets) given =
        again_staged key rs r (repeated key mask (Answered packets)) answers hands expired is refl alive one given
    again r is one Released given =
        again_staged key rs r (repeated key mask Released) answers hands expired is refl alive one given

    go : (l : List Record) → those key rs ≡ l → Stage answers hands expired l
        → IsStaged key answers hands expired (request_came rs key xo mask (find (is_key key) rs))
    go [] is s =
        let none : find (is_key key) rs ≡ None = find_those key rs ∙ ap first is in
        let before : (hands ≡ 0) × (answers ≡ []) = subst (Gone answers hands) alive s in
        let now : those key (rs ++ record { key = key; state = Waiting xo mask } ∷ [])
        ≡ record { key = key; state = Waiting xo mask } ∷ [] =
        those_last key (record { key = key; state = Waiting xo mask }) rs
        ∙ ap (λ l. l ++ those key (record { key = key; state = Waiting xo mask } ∷ [])) is
        ∙ those_first key (record { key = key; state = Waiting xo mask }) [] (same_itself key) in
        subst (λ o. IsStaged key answers hands expired (request_came rs key xo mask o)) (sym none)
        (subst (λ b. Stage answers (more_if b hands) expired
        (those key (rs ++ record { key = key; state = Waiting xo mask } ∷ []))) (sym (same_itself key))
        (subst (Stage answers (hands + 1) expired) (sym now) (alive, omega (arith, before.0), (once, before.1))))
    go (r ∷ []) is s = subst (λ o. IsStaged key answers hands expired (request_came rs key xo mask o))
        (sym (find_those key rs ∙ ap first is)) (again r is s.1 r.state s.2)
    go (r ∷ q ∷ l) is s = absurd s

pub release_staged : (key : Key) (rs : List Record) (answers : List (List Packet)) (hands : ℕ) (expired : Bool)
    → Stage answers hands expired (those key rs)
    → IsStaged key answers hands expired (release_came rs key (find (is_key key) rs))
release_staged key rs answers hands expired stage = go (those key rs) refl stage
  where
    again : (r : Record) → those key rs ≡ r ∷ [] → expired ≡ false → hands ≡ 1 → (s : State) → Given answers s
        → IsStaged key answers hands expired (came_again rs key r (released s))
    again r is alive one (Waiting xo mask) given =
        again_staged key rs r (released (Waiting xo mask)) answers hands expired is refl alive one given
    again r is alive one (Answered packets) given =
        again_staged key rs r (released (Answered packets)) answers hands expired is refl alive one (ap length given)
    again r is alive one Released given =
        again_staged key rs r (released Released) answers hands expired is refl alive one given

    go : (l : List Record) → those key rs ≡ l → Stage answers hands expired l
        → IsStaged key answers hands expired (release_came rs key (find (is_key key) rs))
    go [] is s = subst (λ o. IsStaged key answers hands expired (release_came rs key o))
        (sym (find_those key rs ∙ ap first is)) (subst (Stage answers hands expired) (sym is) s)
    go (r ∷ []) is s = subst (λ o. IsStaged key answers hands expired (release_came rs key o))
        (sym (find_those key rs ∙ ap first is)) (again r is s.0 s.1 r.state s.2)
    go (r ∷ q ∷ l) is s = absurd s

pub release_not_new : (key k : Key) (rs : List Record) (o : Option Record)
    → is_new_of key (release_came rs k o).reception ≡ false
release_not_new key k rs None = refl
release_not_new key k rs (Some r) = go r.state
  where
    go : (s : State) → is_new_of key (released s).reception ≡ false
    go (Waiting xo mask) = refl
    go (Answered packets) = refl
    go Released = refl

-- ---- it is answered

pub answer_staged : (key : Key) (rs : List Record) (packets : List Packet) (answers : List (List Packet)) (hands : ℕ)
    (expired : Bool) → record_fault (find (is_key key) rs) ≡ None → Stage answers hands expired (those key rs) →
    Stage (answers ++ packets ∷ []) hands expired (those key (after_answer rs key packets))
answer_staged key rs packets answers hands expired free stage = go (those key rs) refl stage
  where
    kept : Record
    kept = record { key = key; state = Answered packets }

    waits : (s : State) → state_fault s ≡ None → Given answers s → (keeps_answer s ≡ true) × (answers ≡ [])
    waits (Waiting xo mask) f given = given
    waits (Answered p) f given = absurd (cc)
    waits Released f given = absurd (cc)

    go : (l : List Record) → those key rs ≡ l → Stage answers hands expired l
        → Stage (answers ++ packets ∷ []) hands expired (those key (after_answer rs key packets))
    go [] is s = let no : record_fault None ≡ None = ap record_fault (sym (find_those key rs ∙ ap first is))
        ∙ free in absurd (cc)
    go (r ∷ []) is s =
        let there : find (is_key key) rs ≡ Some r = find_those key rs ∙ ap first is in
        let w = waits r.state (ap record_fault (sym there) ∙ free) s.2 in
        let settled : after_answer rs key packets
        ≡ replaced (is_key key) (record { key = key; state = Answered packets }) rs =
        ap (λ b. cond b (replaced (is_key key) (record { key = key; state = Answered packets }) rs)
        (without_first (is_key key) rs)) (ap is_kept there ∙ w.0) in
        let now : those key (after_answer rs key packets) ≡ record { key = key; state = Answered packets } ∷ [] =
        ap (those key) settled ∙ those_replaced key (record { key = key; state = Answered packets }) rs
        (same_itself key) ∙ ap (first_set (record { key = key; state = Answered packets })) is in
        subst (Stage (answers ++ packets ∷ []) hands expired) (sym now) (s.0, s.1, ap (λ l. l ++ packets ∷ []) w.1)
    go (r ∷ q ∷ l) is s = absurd s

-- ---- its record expires

pub expiry_staged : (key : Key) (rs : List Record) (answers : List (List Packet)) (hands : ℕ) (expired : Bool)
    → expiry_fault (find (is_key key) rs) ≡ None → Stage answers hands expired (those key rs) →
    Stage answers hands true (those key (without_first (is_key key) rs))
expiry_staged key rs answers hands expired free stage = go (those key rs) refl stage
  where
    done : (s : State) → expiry_fault_of s ≡ None → Given answers s → length answers ≡ 1
    done (Waiting xo mask) f given = absurd (cc)
    done (Answered packets) f given = ap length given
    done Released f given = given

    go : (l : List Record) → those key rs ≡ l → Stage answers hands expired l
        → Stage answers hands true (those key (without_first (is_key key) rs))
    go [] is s = let no : expiry_fault None ≡ None = ap expiry_fault (sym (find_those key rs ∙ ap first is))
        ∙ free in absurd (cc)
    go (r ∷ []) is s =
        let there : find (is_key key) rs ≡ Some r = find_those key rs ∙ ap first is in
        subst (Stage answers hands true) (sym (those_without key rs ∙ ap rest is))
        (s.1, done r.state (ap expiry_fault (sym there) ∙ free) s.2)
    go (r ∷ q ∷ l) is s = absurd s

-- ---- what comes, is answered or expires of another key changes nothing

pub others_answered : (key k : Key) (rs : List Record) (packets : List Packet) → same_key k key ≡ false
    → those key (after_answer rs k packets) ≡ those key rs
others_answered key k rs packets other = go (is_kept (find (is_key k) rs))
  where
    go : (b : Bool) → those key
        (cond b (replaced (is_key k) (record { key = k; state = Answered packets }) rs) (without_first (is_key k) rs))
        ≡ those key rs
    go true = others_replaced key k (record { key = k; state = Answered packets }) rs other (same_itself k)
    go false = others_without key k rs other

abbrev pub IsOther : Key → List Record → Received → Type 0
IsOther key rs t = (is_new_of key t.reception ≡ false) × (those key t.after ≡ those key rs)

others_again : (key k : Key) (rs : List Record) (r : Record) (e : Repeat) → same_key k key ≡ false → find (is_key k) rs
    ≡ Some r → is_new_of key e.reception ≡ false → IsOther key rs (came_again rs k r e)
others_again key k rs r e other is old =
    (old, others_replaced key k (record r { state = e.state }) rs other (found_passes (is_key k) rs r is))

pub others_taken : (key : Key) (rs : List Record) (from : Address) (f : Content)
    → same_key (record { from = from; tid = number_of f }) key ≡ false → IsOther key rs (received rs from f)
others_taken key rs from (Response place eom sts tid user bytes) other = (refl, refl)
others_taken key rs from (Release tid) other = go (find (is_key (record { from = from; tid = tid })) rs) refl
  where
    again : (r : Record) → find (is_key (record { from = from; tid = tid })) rs ≡ Some r → (s : State)
        → IsOther key rs (came_again rs (record { from = from; tid = tid }) r (released s))
    again r is (Waiting xo mask) = others_again key (record { from = from; tid = tid }) rs r
        (released (Waiting xo mask)) other is refl
    again r is (Answered packets) = others_again key (record { from = from; tid = tid }) rs r
        (released (Answered packets)) other is refl
    again r is Released = others_again key (record { from = from; tid = tid }) rs r (released Released) other is refl

    go : (o : Option Record) → find (is_key (record { from = from; tid = tid })) rs ≡ o
        → IsOther key rs (release_came rs (record { from = from; tid = tid }) o)
    go None is = (refl, refl)
    go (Some r) is = again r is r.state
others_taken key rs from (Request mask xo timer tid user bytes) other = of (is_passed_over mask)
  where
    again : (r : Record) → find (is_key (record { from = from; tid = tid })) rs ≡ Some r → (s : State)
        → IsOther key rs (came_again rs (record { from = from; tid = tid }) r
        (repeated (record { from = from; tid = tid }) mask s))
    again r is (Waiting x old) = others_again key (record { from = from; tid = tid }) rs r
        (repeated (record { from = from; tid = tid }) mask (Waiting x old)) other is refl
    again r is (Answered packets) = others_again key (record { from = from; tid = tid }) rs r
        (repeated (record { from = from; tid = tid }) mask (Answered packets)) other is refl
    again r is Released = others_again key (record { from = from; tid = tid }) rs r
        (repeated (record { from = from; tid = tid }) mask Released) other is refl

    go : (o : Option Record) → find (is_key (record { from = from; tid = tid })) rs ≡ o
        → IsOther key rs (request_came rs (record { from = from; tid = tid }) xo mask o)
    go None is = (
      other,
      others_last key (record { key = record { from = from; tid = tid }; state = Waiting xo mask })
          rs other,
    )
    go (Some r) is = again r is r.state

    of : (b : Bool) → IsOther key rs
        (cond b (passed rs) (request_came rs (record { from = from; tid = tid }) xo mask
        (find (is_key (record { from = from; tid = tid })) rs)))
    of true = (refl, refl)
    of false = go (find (is_key (record { from = from; tid = tid })) rs) refl

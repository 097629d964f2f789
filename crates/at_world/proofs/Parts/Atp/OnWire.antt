-- The machine's transactions as the network of requesters and responders has them: by the user bytes and the data of
-- their requests.
use Rattle.std.proofs.Common.{◌≡◌, ◌⊎◌, inl, inr, ℕ, zero, suc, ◌+◌, ◌-◌, ◌^◌, ◌<◌, ◌≤◌, Bool, true, false, cond, List}
use Rattle.std.proofs.Common.{[], ◌∷◌, ◌++◌, length, map, Some, refl, sym, ap, subst, ◌∙◌, arith, lit<}
use Rattle.std.specs.Prelude.{slice_get, Any}
use Rattle.std.specs.List.{AllByRecursion, Contains}
use Rattle.std.proofs.lemmas.Bool.{eqb-true}
use Rattle.std.proofs.lemmas.List.{length-append}
use Rattle.at_ddp.specs.declared.address.Address.{Address}
use Rattle.at_atp_frame.specs.Packets.{Packet}
use Rattle.at_atp.specs.Transactions as atp
use Rattle.at_zip.specs.Reading.{place_after}
use Rattle.at_zip.specs.declared.request.TableChoice.{TableChoice}
use Rattle.at_world.specs.Agreements.{on_wire}
use Rattle.at_world.specs.Transactions.{Asks, ForPage, ForService, Transaction, is_transaction, transaction_of, Asked}
use Rattle.at_world.specs.Transactions.{answered, EndsAs, IsResponse}
use Rattle.at_world.proofs.Parts.Atp.Lists.{answer_joins, answer_joins_own, with_answer}

-- a transaction with the user bytes and the data of its request
abbrev pub wired : Transaction → atp.Transaction
wired t = record {
  requester = t.requester;
  tid = t.tid;
  responder = t.responder;
  user = (on_wire t.asks).user;
  data_ = (on_wire t.asks).data_;
  wanted = t.wanted;
  xo = t.xo;
  answers = t.answers;
}

-- ---- the newest of a number

some_wired : (a b : atp.Transaction) → Some a ≡ Some b → a ≡ b
some_wired a b h = cc

pub found_wired : (ts : List Transaction) (who : Address) (k : ℕ) (t : Transaction) → transaction_of ts who k ≡ Some t
    → atp.transaction_of (map wired ts) who k ≡ Some (wired t)
found_wired [] who k t is = absurd (cc)
found_wired (x ∷ ts) who k t is = go (λ g. found_wired ts who k t g) (is_transaction who k x) is
  where
    go : (transaction_of ts who k ≡ Some t → atp.transaction_of (map wired ts) who k ≡ Some (wired t)) → (b : Bool)
        → cond b (Some x) (transaction_of ts who k) ≡ Some t
        → cond b (Some (wired x)) (atp.transaction_of (map wired ts) who k) ≡ Some (wired t)
    go later true g = let same : x ≡ t = cc in ap (λ y. Some (wired y)) same
    go later false g = later g

pub unwired : (ts : List Transaction) (who : Address) (k : ℕ) (u : atp.Transaction)
    → atp.transaction_of (map wired ts) who k ≡ Some u →
    (t : Transaction) × (transaction_of ts who k ≡ Some t) × (u ≡ wired t)
unwired [] who k u is = absurd (cc)
unwired (x ∷ ts) who k u is = go (λ g. unwired ts who k u g) (is_transaction who k x) is
  where
    go : (atp.transaction_of (map wired ts) who k ≡ Some u →
        (t : Transaction) × (transaction_of ts who k ≡ Some t) × (u ≡ wired t)) → (b : Bool)
        → cond b (Some (wired x)) (atp.transaction_of (map wired ts) who k) ≡ Some u →
        (t : Transaction) × (cond b (Some x) (transaction_of ts who k) ≡ Some t) × (u ≡ wired t)
    go later true g = (x, refl, sym (some_wired (wired x) u g))
    go later false g = later g

pub asked_unwired : (ts : List Transaction) (who : Address) (k : ℕ) (at : Address)
    (a : atp.Asked (map wired ts) who k at) → (b : Asked ts who k at) × (a.transaction ≡ wired b.transaction)
asked_unwired ts who k at a = let it = unwired ts who k a.transaction a.newest in (
  record {
    transaction = it.0;
    newest = it.1;
    asked_it = ap (λ (u : atp.Transaction). u.responder) (sym it.2) ∙ a.asked_it;
  },
  it.2,
)

pub answered_wired : (ts : List Transaction) (from : Address) (tid : ℕ) (packets : List Packet)
    → atp.answered (map wired ts) from tid packets ≡ map wired (answered ts from tid packets)
answered_wired [] from tid packets = refl
answered_wired (x ∷ ts) from tid packets = go (answered_wired ts from tid packets) (is_transaction from tid x)
  where
    go : atp.answered (map wired ts) from tid packets ≡ map wired (answered ts from tid packets) → (b : Bool) →
        cond b (wired (with_answer x packets) ∷ map wired ts) (wired x ∷ atp.answered (map wired ts) from tid packets)
        ≡ map wired (cond b (with_answer x packets ∷ ts) (x ∷ answered ts from tid packets))
    go ih true = refl
    go ih false = ap (λ l. wired x ∷ l) ih

-- what an answer was given to is known by it
pub one_key : (ts : List Transaction) (from : Address) (tid : ℕ) (t : Transaction) → transaction_of ts from tid ≡ Some t
    → (packets : List Packet) (other : Address) (number : ℕ) (given : List Packet)
    → map wired (answered ts from tid packets) ≡ map wired (answered ts other number given) →
    (other ≡ from) × (number ≡ tid)
one_key ts from tid t newest packets other number given same =
    let theirs = answer_joins ts other number given from tid t newest in
    go theirs.0
    (some_wired (wired (with_answer t packets)) (wired theirs.0)
    (sym (found_wired (answered ts from tid packets) from tid (with_answer t packets)
    (answer_joins_own ts from tid packets t newest))
    ∙ ap (λ l. atp.transaction_of l from tid) same
    ∙ found_wired (answered ts other number given) from tid theirs.0 theirs.1))
    theirs.2
  where
    go : (v : Transaction) → wired (with_answer t packets) ≡ wired v → (v ≡ t)
        ⊎ ((other ≡ from) × (number ≡ tid) × (v ≡ with_answer t given)) → (other ≡ from) × (number ≡ tid)
    go v is (inl kept) =
        let more : length (t.answers ++ packets ∷ []) ≡ length t.answers =
        ap (λ (u : atp.Transaction). length u.answers) is ∙ ap (λ (u : Transaction). length u.answers) kept in
        absurd (omega (arith, more, length-append t.answers (packets ∷ [])))
    go v is (inr (a, b, joined)) = (a, b)

-- ---- what is asked

-- a page has a place that two bytes hold, and is asked of a socket that serves zones
abbrev pub AsksWell : Asks → Address → Type 0
AsksWell (ForPage which start) to = (1 ≤ start) × (start < 2 ^ 16) × (to.socket ≡ 6)
AsksWell (ForService user bytes) to = Unit {0}

abbrev pub AskWell : List Transaction → Type 0
AskWell ts = AllByRecursion (λ t. AsksWell t.asks t.responder) ts

pub newest_asks_well : (ts : List Transaction) (who : Address) (k : ℕ) (t : Transaction) → AskWell ts
    → transaction_of ts who k ≡ Some t → AsksWell t.asks t.responder
newest_asks_well [] who k t all is = absurd (cc)
newest_asks_well (x ∷ ts) who k t all is =
    go (λ g. newest_asks_well ts who k t all.1 g) (is_transaction who k x) is
  where
    go : (transaction_of ts who k ≡ Some t → AsksWell t.asks t.responder) → (b : Bool)
        → cond b (Some x) (transaction_of ts who k) ≡ Some t → AsksWell t.asks t.responder
    go later true g = let same : x ≡ t = cc in subst (λ (y : Transaction). AsksWell y.asks y.responder) same all.0
    go later false g = later g

pub answered_ask_well : (ts : List Transaction) (from : Address) (tid : ℕ) (packets : List Packet) → AskWell ts
    → AskWell (answered ts from tid packets)
answered_ask_well [] from tid packets all = tt
answered_ask_well (x ∷ ts) from tid packets all =
    go (answered_ask_well ts from tid packets all.1) (is_transaction from tid x)
  where
    go : AskWell (answered ts from tid packets) → (b : Bool)
        → AskWell (cond b (with_answer x packets ∷ ts) (x ∷ answered ts from tid packets))
    go ih true = (all.0, all.1)
    go ih false = (all.0, ih)

-- a page after so many names is asked for well
pub page_fits : (which : TableChoice) (names : List (List ℕ)) (to : Address) → length names ≤ 1024 → to.socket ≡ 6
    → AsksWell (ForPage which (place_after names)) to
page_fits which names to few is = let lt : 1025 < 2 ^ 16 = lit< tt in (omega arith, omega (arith, few, lt), is)

-- what a service is asked is asked by a call
pub asks_service : (asks : Asks) (to : Address) → AsksWell asks to → to.socket ≡ 129 → (user bytes : List ℕ)
    → (on_wire asks).user ≡ user → (on_wire asks).data_ ≡ bytes → asks ≡ ForService user bytes
asks_service (ForPage which start) to well is user bytes a b =
    let wrong : 6 ≡ 129 = sym well.2 ∙ is in absurd (omega (arith, wrong))
asks_service (ForService his its) to well is user bytes a b = λ i. ForService (a i) (b i)

-- ---- responses

parts_of : (u : atp.Transaction) (place : ℕ) (ps : List Packet) → atp.AreParts u place ps → (i : ℕ) (p : Packet)
    → slice_get ps i ≡ Some p → Any (λ answer. slice_get answer (place + i) ≡ Some p) u.answers
parts_of u place [] h i p is = absurd (cc)
parts_of u place (q ∷ ps) h zero p is =
    let part = h.0.1 in
    let at : place + 0 ≡ place = omega arith in
    let given = part.given in
    (given.0, part.answer, given.1, given.2, ap (λ j. slice_get part.answer j) at ∙ part.there ∙ is)
parts_of u place (q ∷ ps) h (suc i) p is =
    let it = parts_of u (place + 1) ps h.1 i p is in
    let at : place + suc i ≡ place + 1 + i = omega arith in
    (it.0, it.1, it.2, it.3, ap (λ j. slice_get it.1 j) at ∙ it.4)

-- an answer that ends as these packets do, of which the first is at a place
pub record Ends (u : atp.Transaction) (place : ℕ) (ps : List Packet) : Type 0 where
  pub answer : List Packet
  pub given : Contains u.answers answer
  pub long : length answer ≡ place + length ps
  pub last : slice_get answer (place + length ps - 1) ≡ slice_get ps (length ps - 1)

ends_of : (u : atp.Transaction) (place : ℕ) (ps : List Packet) → atp.EndsAnswer u place ps → Ends u place ps
ends_of u place [] h = absurd h
ends_of u place (p ∷ []) h =
    let long = eqb-true (place + 1) (length h.answer) (sym h.is_end) in
    let at : place + 1 - 1 ≡ place = omega arith in
    record {
      answer = h.answer;
      given = h.given;
      long = sym long;
      last = ap (λ j. slice_get h.answer j) at ∙ h.there;
    }
ends_of u place (p ∷ q ∷ ps) h =
    let it = ends_of u (place + 1) (q ∷ ps) h in
    let long = it.long in
    let here : place + length (p ∷ q ∷ ps) - 1 ≡ place + 1 + length (q ∷ ps) - 1 = omega arith in
    let there : length (p ∷ q ∷ ps) - 1 ≡ suc (length (q ∷ ps) - 1) = omega arith in
    record {
      answer = it.answer;
      given = it.given;
      long = omega (arith, long);
      last = ap (λ j. slice_get it.answer j) here ∙ it.last ∙ sym (ap (λ j. slice_get (p ∷ q ∷ ps) j) there);
    }

pub is_response : (t : Transaction) (packets : List Packet) → atp.IsResponse (wired t) packets → IsResponse t packets
is_response t packets h = record { some = h.some; few = h.few; parts = parts; whole = whole h.whole }
  where
    parts : (place : ℕ) (p : Packet) → slice_get packets place ≡ Some p
        → Any (λ answer. slice_get answer place ≡ Some p) t.answers
    parts place p is =
        let it = parts_of (wired t) 0 packets h.parts place p is in
        let at : place ≡ 0 + place = omega arith in
        (it.0, it.1, it.2, it.3, ap (λ j. slice_get it.1 j) at ∙ it.4)

    whole : atp.EndsAnswer (wired t) 0 packets ⊎ (length packets ≡ t.wanted)
        → Any (EndsAs packets) t.answers ⊎ (length packets ≡ t.wanted)
    whole (inl ends) =
        let it = ends_of (wired t) 0 packets ends in
        let given = it.given in
        let long = it.long in
        let at : length packets - 1 ≡ 0 + length packets - 1 = omega arith in
        inl (
          given.0,
          it.answer,
          given.1,
          given.2,
          (omega (arith, long), ap (λ j. slice_get it.answer j) at ∙ it.last),
        )
    whole (inr all) = inr all

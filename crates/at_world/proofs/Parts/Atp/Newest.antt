-- The newest transaction of a number along a history: whether it must not run twice, and what it asked.
use Rattle.std.proofs.Common.{◌≡◌, ℕ, ◌+◌, ◌≤◌, length, Bool, true, false, cond, List, []}
use Rattle.std.proofs.Common.{◌∷◌, ◌++◌, Some, refl, sym, ap, subst, ◌∙◌, arith}
use Rattle.std.proofs.lemmas.Bool.{false≢true}
use Rattle.std.proofs.lemmas.List.{length-append}
use Rattle.at_ddp.specs.declared.address.Address.{Address}
use Rattle.at_atp_frame.specs.Packets.{Packet}
use Rattle.at_atp_responder.specs.declared.reception.Key.{Key}
use Rattle.at_atp.specs.Askings.{ChangesAsked, BeginsOne, BeginsIt, ByItself, AfterOne, Leaves, Starts}
use Rattle.at_atp.specs.Askings.{Joins}
use Rattle.at_atp.specs.HandUps.{draws}
use Rattle.at_atp.specs.Network.{Network, Happening, Begins, Turns, after, done}
use Rattle.at_atp.specs.Transactions.{Transaction, is_transaction, transaction_of, answered}
use Rattle.at_event.specs.declared.Report.{Report}
use Rattle.at_steps.specs.AtpReports.{BeginsAs}
use Rattle.at_zip.specs.Tables.{Tables}
use Rattle.at_world.specs.Events.{act_of}
use Rattle.at_world.specs.ExactlyOnce.{Played}
use Rattle.at_world.specs.Stories.{Matches}
use Rattle.at_setup.specs.declared.event.Event.{Event}
use Rattle.at_world.proofs.Parts.Atp.Counts.{asks_once, asks_for, began_under, is_once, wanted_by}
use Rattle.at_world.proofs.Parts.Atp.Told.{Told}

-- ---- the newest transaction of a number

-- the newest transaction of a key, of which this holds
abbrev pub NewestIs : (Transaction → Type 0) → List Transaction → Key → Type 0
NewestIs P ts key = (t : Transaction) × (transaction_of ts key.from key.tid ≡ Some t) × P t

-- whether it must not run twice, and for how many packets it asks
abbrev pub Asks : Bool × ℕ → Transaction → Type 0
Asks asks t = (t.xo ≡ asks.0) × (t.wanted ≡ asks.1)

-- it was given so many answers at least
abbrev pub HasAnswers : ℕ → Transaction → Type 0
HasAnswers count t = count ≤ length t.answers

abbrev pub joined : Transaction → List Packet → Transaction
joined t packets = record t { answers = t.answers ++ packets ∷ [] }

-- an answer that joins leaves this true
abbrev pub IsKept : (Transaction → Type 0) → Type 0
IsKept P = (t : Transaction) (packets : List Packet) → P t → P (joined t packets)

pub asks_kept : (asks : Bool × ℕ) → IsKept (Asks asks)
asks_kept asks t packets h = h

pub has_kept : (count : ℕ) → IsKept (HasAnswers count)
has_kept count t packets h = omega (arith, h, length-append t.answers (packets ∷ []))

pub answered_newest : (P : Transaction → Type 0) → IsKept P
    → (ts : List Transaction) (from : Address) (tid : ℕ) (packets : List Packet) (key : Key) → NewestIs P ts key
    → NewestIs P (answered ts from tid packets) key
answered_newest P stays [] from tid packets key h = let none = h.1 in absurd (cc)
answered_newest P stays (t ∷ ts) from tid packets key h =
    go (λ is. answered_newest P stays ts from tid packets key (h.0, is, h.2)) (is_transaction from tid t)
    (is_transaction key.from key.tid t) refl h.1
  where
    go : (transaction_of ts key.from key.tid ≡ Some h.0 → NewestIs P (answered ts from tid packets) key) → (b c : Bool)
        → is_transaction key.from key.tid t ≡ c → cond c (Some t) (transaction_of ts key.from key.tid) ≡ Some h.0
        → NewestIs P (cond b (joined t packets ∷ ts) (t ∷ answered ts from tid packets)) key
    go later true true e is = let same : t
        ≡ h.0 = cc in (
          joined t packets,
          ap
              (λ x. cond x (Some (joined t packets)) (transaction_of ts key.from key.tid)) e,
          stays t packets
              (subst P (sym same) h.2),
        )
    go later true false e is =
        (h.0, ap (λ x. cond x (Some (joined t packets)) (transaction_of ts key.from key.tid)) e ∙ is, h.2)
    go later false true e is =
        (h.0, ap (λ x. cond x (Some t) (transaction_of (answered ts from tid packets) key.from key.tid)) e ∙ is, h.2)
    go later false false e is = let rest = later is in (
      rest.0,
      ap (λ x. cond x (Some t) (transaction_of (answered ts from tid packets) key.from key.tid)) e
          ∙ rest.1,
      rest.2,
    )

-- an answer to a transaction is one more
pub one_answer_more : (ts : List Transaction) (key : Key) (packets : List Packet) (count : ℕ)
    → NewestIs (HasAnswers count) ts key → NewestIs (HasAnswers (count + 1)) (answered ts key.from key.tid packets) key
one_answer_more [] key packets count h = let none = h.1 in absurd (cc)
one_answer_more (t ∷ ts) key packets count h = go (λ is. one_answer_more ts key packets count (h.0, is, h.2))
    (is_transaction key.from key.tid t) refl h.1
  where
    go : (transaction_of ts key.from key.tid ≡ Some h.0
        → NewestIs (HasAnswers (count + 1)) (answered ts key.from key.tid packets) key) → (b : Bool)
        → is_transaction key.from key.tid t ≡ b → cond b (Some t) (transaction_of ts key.from key.tid) ≡ Some h.0 →
        NewestIs (HasAnswers (count + 1)) (cond b (joined t packets ∷ ts) (t ∷ answered ts key.from key.tid packets))
        key
    go later true e is =
        let same : t ≡ h.0 = cc in
        let before : count ≤ length t.answers = subst (HasAnswers count) (sym same) h.2 in (
          joined t packets,
          ap (λ x. cond x (Some (joined t packets)) (transaction_of ts key.from key.tid)) e,
          omega
              (arith, before, length-append t.answers (packets ∷ [])),
        )
    go later false e is = let rest = later is in (
      rest.0,
      ap (λ x. cond x (Some t) (transaction_of (answered ts key.from key.tid packets) key.from key.tid)) e
          ∙ rest.1,
      rest.2,
    )

-- what the layer below promises of what happens
abbrev pub Changes : Type 0 → Type 0
Changes A = (n : Network) (h : Happening) → ChangesAsked A n h

-- what happens that does not draw its number leaves this true of it
pub kept_newest : (A : Type 0) (changes : Changes A) (P : Transaction → Type 0) → IsKept P
    → (n : Network) (h : Happening) (key : Key) → draws A n h key ≡ false → NewestIs P n.asked key
    → NewestIs P (done A n h).asked key
kept_newest A changes P stays n h key apart newest = go (changes n h)
  where
    go : ChangesAsked A n h → NewestIs P (done A n h).asked key
    go (Leaves l) = subst (λ ts. NewestIs P ts key) (sym l.same) newest
    go (Starts b) = subst (λ ts. NewestIs P ts key) (sym b.asked) (
      newest.0,
      ap (λ x. cond x (Some b.transaction) (transaction_of n.asked key.from key.tid))
          (sym (b.draws_its key) ∙ apart) ∙ newest.1,
      newest.2,
    )
    go (Joins j) = subst (λ ts. NewestIs P ts key) (sym j.asked)
        (answered_newest P stays n.asked (j.key).from (j.key).tid j.packets key newest)

-- what begins is as its event asks
as_asked : (A : Type 0) (net : ℕ) (tables : Tables) (n : Network) (h : Happening) (e : Event A) (r : Report A)
    (key : Key) → Matches net tables n h e r → draws A n h key ≡ true → (b : BeginsOne A n h)
    → Asks (asks_once e, asks_for e) b.transaction
as_asked A net tables n h e r key m drawn b = go b.begins
  where
    go : BeginsIt A n h b.transaction b.retries → Asks (asks_once e, asks_for e) b.transaction
    go (ByItself is) =
        let begun : BeginsAs (Begins (b.transaction).requester (b.transaction).responder (b.transaction).user
        (b.transaction).data_ (b.transaction).wanted (b.transaction).xo b.retries) (act_of e) = subst
        (λ x. BeginsAs x (act_of e)) is m.begins_as in
        (sym begun.0, sym begun.1)
    go (AfterOne f) =
        let turned : BeginsAs (Turns f.datagram (b.transaction).user b.retries) (act_of e) =
        subst (λ x. BeginsAs x (act_of e)) f.turns m.begins_as in
        (f.not_xo ∙ sym turned.0, f.one_wanted ∙ sym turned.1)

-- what draws its number begins one
drawn_newest : (A : Type 0) (changes : Changes A) (net : ℕ) (tables : Tables) (n : Network) (h : Happening)
    (e : Event A) (r : Report A) (key : Key) → Matches net tables n h e r → draws A n h key ≡ true
    → NewestIs (Asks (asks_once e, asks_for e)) (done A n h).asked key
drawn_newest A changes net tables n h e r key m drawn = go (changes n h)
  where
    go : ChangesAsked A n h → NewestIs (Asks (asks_once e, asks_for e)) (done A n h).asked key
    go (Leaves l) = absurd (false≢true (sym (l.draws_none key) ∙ drawn))
    go (Joins j) = absurd (false≢true (sym (j.draws_none key) ∙ drawn))
    go (Starts b) =
        subst (λ ts. NewestIs (Asks (asks_once e, asks_for e)) ts key) (sym b.asked) (
          b.transaction,
          ap (λ x. cond x (Some b.transaction) (transaction_of n.asked key.from key.tid))
              (sym (b.draws_its key) ∙ drawn),
          as_asked A net tables n h e r key m drawn b,
        )

pub once_newest : (A : Type 0) (changes : Changes A) (net : ℕ) (past : List (Played A)) (hs : List Happening)
    (key : Key) → Told A net past hs → is_once net past key ≡ true
    → NewestIs (Asks (true, wanted_by net past key)) (after A hs).asked key
once_newest A changes net [] hs key told once = absurd (false≢true once)
once_newest A changes net (x ∷ xs) [] key told once = absurd told
once_newest A changes net (x ∷ xs) (h ∷ hs) key told once =
    go (λ is. once_newest A changes net xs hs key told.2 is) (began_under net x.event x.report key) refl once
  where
    m : Matches net x.tables (after A hs) h x.event x.report
    m = told.0

    go : (is_once net xs key ≡ true → NewestIs (Asks (true, wanted_by net xs key)) (after A hs).asked key) → (b : Bool)
        → began_under net x.event x.report key ≡ b → cond b (asks_once x.event) (is_once net xs key) ≡ true
        → NewestIs (Asks (true, cond b (asks_for x.event) (wanted_by net xs key))) (done A (after A hs) h).asked key
    go before true e is = subst (λ xo. NewestIs (Asks (xo, asks_for x.event)) (done A (after A hs) h).asked key) is
        (drawn_newest A changes net x.tables (after A hs) h x.event x.report key m (m.draws_it key ∙ e))
    go before false e is = kept_newest A changes (Asks (true, wanted_by net xs key))
        (asks_kept (true, wanted_by net xs key)) (after A hs) h key (m.draws_it key ∙ e) (before is)

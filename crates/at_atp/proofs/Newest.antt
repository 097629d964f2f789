-- The newest transaction of a number, as others begin and answers join.
use Rattle.std.proofs.Common.{◌≡◌, ℕ, Bool, true, false, cond, List, [], ◌∷◌, ◌++◌, Option, Some, None, refl, sym, ap}
use Rattle.std.proofs.Common.{subst, ◌∙◌, lit<}
use Rattle.std.specs.Prelude.{find, ◌==◌, ◌&&◌}
use Rattle.std.specs.List.{Contains}
use Rattle.std.proofs.lemmas.Bool.{true≢false, and_parts, eqb-true}
use Rattle.std.proofs.lemmas.List.Elements.{Contains-append_left, Contains-append_right}
use Rattle.at_ddp.specs.Address.{same_address}
use Rattle.at_ddp.specs.declared.address.Address.{Address}
use Rattle.at_ddp.proofs.Octets.{same_address-true}
use Rattle.at_atp_frame.specs.Packets.{Packet}
use Rattle.at_atp.specs.Transactions.{Transaction, is_transaction, transaction_of, Asked, answered, IsPart}
use Rattle.at_ddp.specs.Posts.{packet_at}
use Rattle.at_atp.specs.Network.{Network, Sent, Happening, Begins, Answers, Hears, Turns, Takes, Serves, Expires}
use Rattle.at_atp.specs.Network.{Retries, hears, takes_in, expires, retries, done}
use Rattle.at_atp_frame.specs.declared.fault.AtpFault.{AtpFault}
use Rattle.at_atp_requester.specs.Requests.{Retried, retried}
use Rattle.at_atp_responder.specs.Records.{is_key, expiry_fault}
use Rattle.std.proofs.lemmas.Option.{same_Some}

-- the same transaction, perhaps with more answers
pub record Extends (old new : Transaction) : Type 0 where
  pub responder : new.responder ≡ old.responder
  pub user : new.user ≡ old.user
  pub bytes : new.data_ ≡ old.data_
  pub wanted : new.wanted ≡ old.wanted
  pub xo : new.xo ≡ old.xo
  pub answers : (a : List Packet) → Contains old.answers a → Contains new.answers a

pub itself : (t : Transaction) → Extends t t
itself t = record { responder = refl; user = refl; bytes = refl; wanted = refl; xo = refl; answers = λ a c. c }

-- the newest transaction of a number is there as before, perhaps with more answers
abbrev pub Keeps : List Transaction → List Transaction → Address → ℕ → Type 0
Keeps old new who tid = (t : Transaction) → transaction_of old who tid ≡ Some t → (u : Transaction)
    × (transaction_of new who tid ≡ Some u) × Extends t u

-- another begins
pub begun_keeps : (ts : List Transaction) (t : Transaction) (who : Address) (tid : ℕ) → is_transaction who tid t
    ≡ false → Keeps ts (t ∷ ts) who tid
begun_keeps ts t who tid apart = λ u is. (u, rw apart is, itself u)

-- an answer joins
abbrev pub joined : Transaction → List Packet → Transaction
joined t packets = record t { answers = t.answers ++ packets ∷ [] }

extends_joined : (t : Transaction) (packets : List Packet) → Extends t (joined t packets)
extends_joined t packets =
    record {
      responder = refl;
      user = refl;
      bytes = refl;
      wanted = refl;
      xo = refl;
      answers = λ a c. Contains-append_left t.answers (packets ∷ []) a c;
    }

one : (packets : List Packet) → Contains (packets ∷ []) packets
one packets = (0, lit< tt, refl)

pub answered_keeps : (ts : List Transaction) (from : Address) (tid : ℕ) (packets : List Packet) (who : Address) (k : ℕ)
    → Keeps ts (answered ts from tid packets) who k
answered_keeps [] from tid packets who k = λ t is. absurd (cc)
answered_keeps (t ∷ ts) from tid packets who k =
    go (answered_keeps ts from tid packets who k) (is_transaction from tid t) (is_transaction who k t) refl
  where
    go : Keeps ts (answered ts from tid packets) who k → (a b : Bool) → is_transaction who k t ≡ b
        → Keeps (t ∷ ts) (cond a (joined t packets ∷ ts) (t ∷ answered ts from tid packets)) who k
    go ih true true e = λ u is.
        let same : t ≡ u = same_Some t u (sym (ap (λ b. cond b (Some t) (transaction_of ts who k)) e) ∙ is) in (
          joined t packets,
          ap (λ b. cond b (Some (joined t packets)) (transaction_of ts who k)) e,
          subst
              (λ x. Extends x (joined t packets)) same (extends_joined t packets),
        )
    go ih true false e = λ u is. (
      u,
      ap (λ b. cond b (Some (joined t packets)) (transaction_of ts who k)) e
          ∙ sym (ap (λ b. cond b (Some t) (transaction_of ts who k)) e) ∙ is,
      itself u,
    )
    go ih false true e = λ u is.
        let same : t ≡ u = same_Some t u (sym (ap (λ b. cond b (Some t) (transaction_of ts who k)) e) ∙ is) in (
          t,
          ap (λ b. cond b (Some t) (transaction_of (answered ts from tid packets) who k)) e,
          subst
              (λ x. Extends x t) same (itself t),
        )
    go ih false false e = λ u is.
        let more = ih u (sym (ap (λ b. cond b (Some t) (transaction_of ts who k)) e) ∙ is) in
        (more.0, ap (λ b. cond b (Some t) (transaction_of (answered ts from tid packets) who k)) e ∙ more.1, more.2)

-- the answer is among those of its transaction
pub answered_joins : (ts : List Transaction) (from : Address) (tid : ℕ) (packets : List Packet) (t : Transaction)
    → transaction_of ts from tid ≡ Some t →
    (u : Transaction) × (transaction_of (answered ts from tid packets) from tid ≡ Some u) × Extends t u
    × Contains u.answers packets
answered_joins [] from tid packets t is = absurd (cc)
answered_joins (x ∷ ts) from tid packets t is =
    go (λ h. answered_joins ts from tid packets t h) (is_transaction from tid x) refl is
  where
    go : (transaction_of ts from tid ≡ Some t → (u : Transaction)
        × (transaction_of (answered ts from tid packets) from tid ≡ Some u) × Extends t u × Contains u.answers packets)
        →
        (a : Bool) → is_transaction from tid x ≡ a → cond a (Some x) (transaction_of ts from tid) ≡ Some t →
        (u : Transaction) × (transaction_of (cond a (joined x packets ∷ ts) (x ∷ answered ts from tid packets)) from
        tid ≡ Some u) × Extends t u × Contains u.answers packets
    go ih true e h =
        let same : x ≡ t = same_Some x t h in (
          joined x packets,
          ap (λ b. cond b (Some (joined x packets)) (transaction_of ts from tid)) e,
          subst
              (λ y. Extends y (joined x packets)) same (extends_joined x packets),
          Contains-append_right x.answers
              (packets ∷ []) packets (one packets),
        )
    go ih false e h =
        let more = ih h in (
          more.0,
          ap (λ b. cond b (Some x) (transaction_of (answered ts from tid packets) from tid)) e
              ∙ more.1,
          more.2,
          more.3,
        )

-- exactly it joins, and those of other numbers are as before
pub joined_exactly : (ts : List Transaction) (who : Address) (tid : ℕ) (packets : List Packet) (t : Transaction)
    → transaction_of ts who tid ≡ Some t → transaction_of (answered ts who tid packets) who tid
    ≡ Some (joined t packets)
joined_exactly [] who tid packets t is = absurd (cc)
joined_exactly (x ∷ ts) who tid packets t is =
    go (λ h. joined_exactly ts who tid packets t h) (is_transaction who tid x) refl is
  where
    go : (transaction_of ts who tid ≡ Some t → transaction_of (answered ts who tid packets) who tid
        ≡ Some (joined t packets)) → (b : Bool) → is_transaction who tid x ≡ b
        → cond b (Some x) (transaction_of ts who tid) ≡ Some t →
        transaction_of (cond b (joined x packets ∷ ts) (x ∷ answered ts who tid packets)) who tid
        ≡ Some (joined t packets)
    go ih true e h = ap (λ b. cond b (Some (joined x packets)) (transaction_of ts who tid)) e
        ∙ ap (λ y. Some (joined y packets)) (same_Some x t h)
    go ih false e h = ap (λ b. cond b (Some x) (transaction_of (answered ts who tid packets) who tid)) e ∙ ih h

pub others_unanswered : (ts : List Transaction) (from : Address) (tid : ℕ) (packets : List Packet) (who : Address)
    (k : ℕ) → (same_address from who && (tid == k)) ≡ false → transaction_of (answered ts from tid packets) who k
    ≡ transaction_of ts who k
others_unanswered [] from tid packets who k other = refl
others_unanswered (x ∷ ts) from tid packets who k other = go (others_unanswered ts from tid packets who k other)
    (is_transaction from tid x) refl
  where
    apart : is_transaction from tid x ≡ true → is_transaction who k x ≡ false
    apart e =
        let both = and_parts (same_address x.requester from) (x.tid == tid) e in
        (λ i. same_address (same_address-true x.requester from both.0 i) who && (eqb-true x.tid tid both.1 i == k))
        ∙ other

    go : transaction_of (answered ts from tid packets) who k ≡ transaction_of ts who k → (b : Bool)
        → is_transaction from tid x ≡ b
        → transaction_of (cond b (joined x packets ∷ ts) (x ∷ answered ts from tid packets)) who k
        ≡ transaction_of (x ∷ ts) who k
    go ih true e = ap (λ b. cond b (Some (joined x packets)) (transaction_of ts who k)) (apart e)
        ∙ sym (ap (λ b. cond b (Some x) (transaction_of ts who k)) (apart e))
    go ih false e = ap (λ o. cond (is_transaction who k x) (Some x) o) ih

-- what was known of the newest transaction is known of it still
pub asked_kept : (old new : List Transaction) (who : Address) (tid : ℕ) (responder : Address) → Keeps old new who tid
    → (a : Asked old who tid responder) → (b : Asked new who tid responder) × Extends a.transaction b.transaction
asked_kept old new who tid responder keeps a =
    let more = keeps a.transaction a.newest in
    (record { transaction = more.0; newest = more.1; asked_it = more.2.responder ∙ a.asked_it }, more.2)

pub part_kept : (t u : Transaction) (place : ℕ) (ends : Bool) (p : Packet) → Extends t u → IsPart t place ends p
    → IsPart u place ends p
part_kept t u place ends p extends part =
    record {
      answer = part.answer;
      given = extends.answers part.answer part.given;
      there = part.there;
      is_end = part.is_end;
    }

-- there is only one newest transaction
pub one_newest : (ts : List Transaction) (who : Address) (tid : ℕ) (a b : Address) (x : Asked ts who tid a)
    (y : Asked ts who tid b) → x.transaction ≡ y.transaction
one_newest ts who tid a b x y = same_Some x.transaction y.transaction (sym x.newest ∙ y.newest)

pub still_asked : (ts : List Transaction) (from : Address) (tid : ℕ) (packets : List Packet) (who : Address) (k : ℕ)
    (responder : Address) (a : Asked ts who k responder) →
    (b : Asked (answered ts from tid packets) who k responder) × ((b.transaction).user ≡ (a.transaction).user)
    × ((b.transaction).data_ ≡ (a.transaction).data_) × ((b.transaction).wanted ≡ (a.transaction).wanted)
    × ((b.transaction).xo ≡ (a.transaction).xo)
still_asked ts from tid packets who k responder a =
    let more = asked_kept ts (answered ts from tid packets) who k responder
    (answered_keeps ts from tid packets who k) a in
    let same = more.1 in
    (more.0, same.user, same.bytes, same.wanted, same.xo)

-- may it begin a transaction, or answer one?
abbrev pub asks_or_answers : Happening → Bool
asks_or_answers (Begins who to user bytes wanted xo times) = true
asks_or_answers (Answers at key packets) = true
asks_or_answers (Turns which user times) = true
asks_or_answers (Serves which packets) = true
asks_or_answers other = false

-- what neither begins nor answers leaves all that was asked
pub left_as_asked : (A : Type 0) (n : Network) (h : Happening) → asks_or_answers h ≡ false → (done A n h).asked
    ≡ n.asked
left_as_asked A n (Begins who to user bytes wanted xo times) quiet = absurd (true≢false quiet)
left_as_asked A n (Answers at key packets) quiet = absurd (true≢false quiet)
left_as_asked A n (Turns which user times) quiet = absurd (true≢false quiet)
left_as_asked A n (Serves which packets) quiet = absurd (true≢false quiet)
left_as_asked A n (Hears which) quiet = go (packet_at n.sent which)
  where
    go : (o : Option Sent) → (hears A n o).asked ≡ n.asked
    go None = refl
    go (Some s) = refl
left_as_asked A n (Takes which) quiet = go (packet_at n.sent which)
  where
    go : (o : Option Sent) → (takes_in n o).asked ≡ n.asked
    go None = refl
    go (Some s) = refl
left_as_asked A n (Expires at key) quiet = go (expiry_fault (find (is_key key) (n.responders at)))
  where
    go : (f : Option AtpFault) → (expires n at key f).asked ≡ n.asked
    go None = refl
    go (Some fault) = refl
left_as_asked A n (Retries who tid) quiet = go (retried (n.requesters who) tid)
  where
    go : (o : Option Retried) → (retries n who o).asked ≡ n.asked
    go None = refl
    go (Some r) = refl
left_as_asked A n other quiet = refl

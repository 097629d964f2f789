-- Lists of transactions, of answers and of readings.
use Rattle.std.proofs.Common.{◌≡◌, ◌⊎◌, inl, inr, ap, ℕ, zero, suc, Bool, true, false, cond, List, [], ◌∷◌, ◌++◌, Some}
use Rattle.std.proofs.Common.{refl, sym, ◌∙◌, arith}
use Rattle.std.specs.Prelude.{not, slice_get, ◌==◌}
use Rattle.std.specs.List.{Contains}
use Rattle.std.proofs.lemmas.Bool.{true≢false, and_parts, eq-eqb, eqb-true}
use Rattle.at_ddp.specs.Address.{same_address}
use Rattle.at_ddp.specs.declared.address.Address.{Address}
use Rattle.at_ddp.proofs.Octets.{same_address-true}
use Rattle.at_atp_frame.specs.Packets.{Packet}
use Rattle.at_world.specs.Machine.AtpGuards.{Reading, reading_of, without_reading}
use Rattle.at_world.specs.Transactions.{Transaction, is_transaction, transaction_of, answered}
use Rattle.std.proofs.lemmas.Option.{same_Some}

-- a transaction with one answer more
abbrev pub with_answer : Transaction → List Packet → Transaction
with_answer t packets = record t { answers = t.answers ++ packets ∷ [] }

-- what becomes of the newest transaction of a number: the answer joins it, or it stays as it was
abbrev pub Becomes : (from : Address) (tid : ℕ) (packets : List Packet) (who : Address) (k : ℕ)
    (before after : Transaction) → Type 0
Becomes from tid packets who k before after = (after ≡ before)
    ⊎ ((from ≡ who) × (tid ≡ k) × (after ≡ with_answer before packets))

same_number : (t : Transaction) (from who : Address) (tid k : ℕ) → is_transaction from tid t ≡ true
    → is_transaction who k t ≡ true → (from ≡ who) × (tid ≡ k)
same_number t from who tid k a b =
    let x = and_parts (same_address t.requester from) (t.tid == tid) a in
    let y = and_parts (same_address t.requester who) (t.tid == k) b in (
      sym (same_address-true t.requester from x.0) ∙ same_address-true t.requester who y.0,
      sym (eqb-true t.tid tid x.1)
          ∙ eqb-true t.tid k y.1,
    )

pub answer_joins : (ts : List Transaction) (from : Address) (tid : ℕ) (packets : List Packet) (who : Address) (k : ℕ)
    (u : Transaction) → transaction_of ts who k ≡ Some u →
    (v : Transaction) × (transaction_of (answered ts from tid packets) who k ≡ Some v)
    × Becomes from tid packets who k u v
answer_joins [] from tid packets who k u is = absurd (cc)
answer_joins (t ∷ ts) from tid packets who k u is = go (λ g. answer_joins ts from tid packets who k u g)
    (is_transaction from tid t) (is_transaction who k t) refl refl is
  where
    go : (transaction_of ts who k ≡ Some u → (v : Transaction)
        × (transaction_of (answered ts from tid packets) who k ≡ Some v) × Becomes from tid packets who k u v)
        → (b c : Bool) → is_transaction from tid t ≡ b → is_transaction who k t ≡ c
        → cond c (Some t) (transaction_of ts who k) ≡ Some u →
        (v : Transaction) × (transaction_of (cond b (with_answer t packets ∷ ts) (t ∷ answered ts from tid packets))
        who k ≡ Some v) × Becomes from tid packets who k u v
    go later true true d e g =
        let same : t ≡ u = same_Some t u g in
        let number = same_number t from who tid k d e in (
          with_answer t packets,
          ap (λ x. cond x (Some (with_answer t packets)) (transaction_of ts who k)) e,
          inr
              (number.0, number.1, ap (λ (x : Transaction). with_answer x packets) same),
        )
    go later true false d e g =
        (u, ap (λ x. cond x (Some (with_answer t packets)) (transaction_of ts who k)) e ∙ g, inl refl)
    go later false true d e g =
        (u, ap (λ x. cond x (Some t) (transaction_of (answered ts from tid packets) who k)) e ∙ g, inl refl)
    go later false false d e g = let rest = later g in
        (rest.0, ap (λ x. cond x (Some t) (transaction_of (answered ts from tid packets) who k)) e ∙ rest.1, rest.2)

-- the newest transaction that is answered has that answer
pub answer_joins_own : (ts : List Transaction) (from : Address) (tid : ℕ) (packets : List Packet) (t : Transaction)
    → transaction_of ts from tid ≡ Some t
    → transaction_of (answered ts from tid packets) from tid ≡ Some (with_answer t packets)
answer_joins_own [] from tid packets t is = absurd (cc)
answer_joins_own (x ∷ ts) from tid packets t is =
    go (λ g. answer_joins_own ts from tid packets t g) (is_transaction from tid x) refl is
  where
    go : (transaction_of ts from tid ≡ Some t
        → transaction_of (answered ts from tid packets) from tid ≡ Some (with_answer t packets)) → (b : Bool)
        → is_transaction from tid x ≡ b → cond b (Some x) (transaction_of ts from tid) ≡ Some t →
        transaction_of (cond b (with_answer x packets ∷ ts) (x ∷ answered ts from tid packets)) from tid
        ≡ Some (with_answer t packets)
    go later true e g = ap (λ c. cond c (Some (with_answer x packets)) (transaction_of ts from tid)) e
        ∙ ap (λ y. Some (with_answer y packets)) (same_Some x t g)
    go later false e g = ap (λ c. cond c (Some x) (transaction_of (answered ts from tid packets) from tid)) e ∙ later g

-- the end of a reading leaves the others
pub others_left : (rs : List Reading) (k j : ℕ) → (k == j) ≡ false
    → reading_of (without_reading rs k) j ≡ reading_of rs j
others_left [] k j apart = refl
others_left (r ∷ rs) k j apart = go (others_left rs k j apart) (r.node == k) refl (r.node == j) refl
  where
    go : reading_of (without_reading rs k) j ≡ reading_of rs j → (b : Bool) → (r.node == k) ≡ b → (c : Bool)
        → (r.node == j) ≡ c → reading_of (cond (not b) (r ∷ without_reading rs k) (without_reading rs k)) j
        ≡ reading_of (r ∷ rs) j
    go ih true e true f = absurd
        (true≢false (sym (eq-eqb k j (sym (eqb-true r.node k e) ∙ eqb-true r.node j f)) ∙ apart))
    go ih true e false f = rw f ih
    go ih false e true f = rw f refl
    go ih false e false f = rw f ih

pub no_answers : {P : Type 0} (answer : List Packet) → Contains [] answer → P
no_answers answer among = let lt = among.1 in absurd (omega arith)

pub one_answer : (x y : List Packet) → Contains (x ∷ []) y → x ≡ y
one_answer x y (zero, lt, is) = is
one_answer x y (suc i, lt, is) = absurd (omega arith)

-- what stands in an answer of one packet
pub only_packet : (p q : Packet) (place : ℕ) → slice_get (p ∷ []) place ≡ Some q → p ≡ q
only_packet p q zero h = cc
only_packet p q (suc place) h = absurd (cc)

-- The open transactions in their table, each found by its number.
use Rattle.std.proofs.Common.{◌≡◌, ℕ, ◌+◌, ◌-◌, nat_eq, Bool, true, false, cond, List, [], ◌∷◌, length, map, Option}
use Rattle.std.proofs.Common.{Some, None, is_some, refl, sym, ap, ◌∙◌, arith}
use Rattle.std.specs.Prelude.{find, remove, ◌==◌, ◌&&◌, ◌||◌}
use Rattle.std.specs.List.{position_from}
use Rattle.std.specs.Option.{option_eq}
use Rattle.std.proofs.lemmas.Bool.{true≢false, eqb-true, or_parts}
use Rattle.std.proofs.lemmas.List.Edits.{length-remove}
use Rattle.at_ddp.specs.Address.{same_address}
use Rattle.at_ddp.specs.Tables.{without_first}
use Rattle.at_ddp.specs.declared.address.Address.{Address}
use Rattle.at_ddp.proofs.EqualLemmas.{turned}
use Rattle.at_ddp.proofs.TableLemmas.{found, not_found, without_none}
use Rattle.at_table.specs.Rows.{Rows}
use Rattle.at_atp_requester.specs.Requests.{NumbersDiffer, Requests, Transaction, closing, has_number, is_numbered}
use Rattle.at_atp_requester.specs.Requests.{is_of}
use Rattle.at_atp_requester.specs.Standing.{AreFiled, left_open, tid_of}

-- it finds the transaction that has the number
pub finds_number : (tid : ℕ) (t : Transaction) → nat_eq tid (tid_of t) ≡ is_numbered tid t
finds_number tid t = turned tid t.tid

-- a number that is not open is no key
pub fresh_in : (t : Rows ℕ Transaction) (tid : ℕ) → AreFiled t → has_number t.items tid ≡ false
    → position_from (nat_eq tid) 0 t.keys ≡ None
fresh_in t tid filed free = ap (position_from (nat_eq tid) 0) filed ∙ go 0 t.items free
  where
    go : (n : ℕ) (ts : List Transaction) → has_number ts tid ≡ false
        → position_from (nat_eq tid) n (map tid_of ts) ≡ None
    go n [] h = refl
    go n (x ∷ ts) h =
        let parts = or_parts (x.tid == tid) (has_number ts tid) h in
        rw (turned tid x.tid ∙ parts.0) (go (n + 1) ts parts.1)

-- ---- the transaction of a number and an address

none_of : (tid : ℕ) (from : Address) (n : ℕ) (ts : List Transaction) → has_number ts tid ≡ false
    → position_from (is_of tid from) n ts ≡ None
none_of tid from n [] h = refl
none_of tid from n (x ∷ ts) h =
    let parts = or_parts (x.tid == tid) (has_number ts tid) h in
    rw parts.0 (none_of tid from (n + 1) ts parts.1)

pub no_number : (tid n : ℕ) (ts : List Transaction) → position_from (is_numbered tid) n ts ≡ None
    → has_number ts tid ≡ false
no_number tid n [] h = refl
no_number tid n (x ∷ ts) h = go (x.tid == tid) (λ g. no_number tid (n + 1) ts g) h
  where
    go : (b : Bool) → (position_from (is_numbered tid) (n + 1) ts ≡ None → has_number ts tid ≡ false)
        → cond b (Some n) (position_from (is_numbered tid) (n + 1) ts) ≡ None → (b || has_number ts tid) ≡ false
    go true ih g = absurd (cc)
    go false ih g = ih g

pub not_of : (tid : ℕ) (from : Address) (ts : List Transaction) → position_from (is_numbered tid) 0 ts ≡ None
    → position_from (is_of tid from) 0 ts ≡ None
not_of tid from ts h = none_of tid from 0 ts (no_number tid 0 ts h)

-- only the one of this number can be the one
pub of_numbered : (tid : ℕ) (from : Address) (n : ℕ) (ts : List Transaction) (t : Transaction) → NumbersDiffer ts
    → find (is_numbered tid) ts ≡ Some t
    → position_from (is_of tid from) n ts ≡ cond (is_of tid from t) (position_from (is_numbered tid) n ts) None
of_numbered tid from n [] t differ h = absurd (cc)
of_numbered tid from n (x ∷ ts) t differ h = go (of_numbered tid from (n + 1) ts t differ.1) (x.tid == tid) refl h
  where
    first : (b : Bool) → (x.tid == tid) ≡ true → same_address x.to from ≡ b
        → cond b (Some n) (position_from (is_of tid from) (n + 1) ts) ≡ cond b (Some n) None
    first true e f = refl
    first false e f = none_of tid from (n + 1) ts
        (ap (has_number ts) (sym (eqb-true x.tid tid e)) ∙ differ.0)

    go : (find (is_numbered tid) ts ≡ Some t → position_from (is_of tid from) (n + 1) ts
        ≡ cond (is_of tid from t) (position_from (is_numbered tid) (n + 1) ts) None) → (b : Bool) → (x.tid == tid) ≡ b
        → cond b (Some x) (find (is_numbered tid) ts) ≡ Some t
        → cond ((x.tid == tid) && same_address x.to from) (Some n) (position_from (is_of tid from) (n + 1) ts)
        ≡ cond (is_of tid from t) (cond (x.tid == tid) (Some n) (position_from (is_numbered tid) (n + 1) ts)) None
    go ih true e g =
        let same : x ≡ t = cc in
        rw (← same, e) (first (same_address x.to from) e refl)
    go ih false e g = rw e (ih g)

-- ---- what is open once a transaction is closed

pub some_position : (tid n : ℕ) (ts : List Transaction) → is_some (position_from (is_numbered tid) n ts)
    ≡ has_number ts tid
some_position tid n [] = refl
some_position tid n (x ∷ ts) = go (x.tid == tid) (some_position tid (n + 1) ts)
  where
    go : (b : Bool) → is_some (position_from (is_numbered tid) (n + 1) ts) ≡ has_number ts tid
        → is_some (cond b (Some n) (position_from (is_numbered tid) (n + 1) ts)) ≡ (b || has_number ts tid)
    go true ih = refl
    go false ih = ih

-- the one that is closed is open no more
gone : (tid : ℕ) (ts : List Transaction) → NumbersDiffer ts
    → has_number (without_first (is_numbered tid) ts) tid ≡ false
gone tid [] differ = refl
gone tid (x ∷ ts) differ = go (gone tid ts differ.1) (x.tid == tid) refl
  where
    go : has_number (without_first (is_numbered tid) ts) tid ≡ false → (b : Bool) → (x.tid == tid) ≡ b
        → has_number (cond b ts (x ∷ without_first (is_numbered tid) ts)) tid ≡ false
    go ih true e = ap (has_number ts) (sym (eqb-true x.tid tid e)) ∙ differ.0
    go ih false e = rw e ih

-- and every other stays
others : (closed tid : ℕ) (ts : List Transaction) → (closed == tid) ≡ false
    → has_number (without_first (is_numbered closed) ts) tid ≡ has_number ts tid
others closed tid [] apart = refl
others closed tid (x ∷ ts) apart = go (others closed tid ts apart) (x.tid == closed) refl
  where
    go : has_number (without_first (is_numbered closed) ts) tid ≡ has_number ts tid → (b : Bool) → (x.tid == closed) ≡ b
        → has_number (cond b ts (x ∷ without_first (is_numbered closed) ts)) tid
        ≡ ((x.tid == tid) || has_number ts tid)
    go ih true e = rw (ap (λ n. n == tid) (eqb-true x.tid closed e) ∙ apart) refl
    go ih false e = ap (λ b. (x.tid == tid) || b) ih

pub closed_is_gone : (closed : Option ℕ) (tid : ℕ) (ts : List Transaction) → NumbersDiffer ts
    → option_eq nat_eq closed (Some tid) ≡ true → has_number (left_open ts closed) tid ≡ false
closed_is_gone None tid ts differ h = absurd (true≢false (sym h))
closed_is_gone (Some c) tid ts differ h =
    ap (λ n. has_number (without_first (is_numbered n) ts) tid) (eqb-true c tid h) ∙ gone tid ts differ

pub others_stay : (closed : Option ℕ) (tid : ℕ) (ts : List Transaction)
    → option_eq nat_eq closed (Some tid) ≡ false → has_number (left_open ts closed) tid ≡ has_number ts tid
others_stay None tid ts h = refl
others_stay (Some c) tid ts h = others c tid ts h

pub one_less : (tid i : ℕ) (ts : List Transaction) → position_from (is_numbered tid) 0 ts ≡ Some i
    → length ts - 1 ≡ length (without_first (is_numbered tid) ts)
one_less tid i ts h =
    let place = found (is_numbered tid) ts i h in
    let same : length (without_first (is_numbered tid) ts) ≡ length (remove ts i) = ap length place.gone_is in
    omega (arith, same, length-remove ts i place.within)

pub none_less : (tid : ℕ) (ts : List Transaction) → position_from (is_numbered tid) 0 ts ≡ None
    → length ts ≡ length (without_first (is_numbered tid) ts)
none_less tid ts h = ap length (sym (without_none (is_numbered tid) ts (not_found (is_numbered tid) 0 ts h)))

-- the same of a requester
pub closing_is : (r : Requests) (closed : Option ℕ)
    → closing r closed ≡ record { next = r.next; standing = left_open r.standing closed }
closing_is r None = refl
closing_is r (Some tid) = refl

-- The records in their table, each under its own key.
use Rattle.std.proofs.Common.{◌≡◌, ◌&&◌, ◌||◌, ℕ, ◌+◌, nat_eq, Bool, true, false, cond, List, [], ◌∷◌}
use Rattle.std.proofs.Common.{map, Result, Ok, Err, Some, None, refl, sym, ap}
use Rattle.std.proofs.Common.{subst, ◌∙◌}
use Rattle.std.specs.Prelude.{find, IfOk, OnErr}
use Rattle.std.specs.List.{AllByRecursion, IsDistinct, list_any, position_from}
use Rattle.at_ddp.specs.Outbox.{Outbox}
use Rattle.at_ddp.proofs.EqualLemmas.{turned}
use Rattle.at_table.specs.Rows.{AreKeyed, Rows}
use Rattle.at_atp_responder.specs.Keys.{AreApart, AreFiled, key_of}
use Rattle.at_atp_responder.specs.Once.{same_key}
use Rattle.at_atp_responder.specs.Records.{Record, Repeat, IsRepeat, is_key}
use Rattle.at_atp_responder.specs.declared.reception.Key.{Key}
use Rattle.at_atp_responder.specs.declared.reception.Reception.{Reception}
use Rattle.at_ddp.proofs.CaseLemmas.{regrouped}

-- ---- how keys are compared

-- keys as the code compares them
abbrev pub eq_key : Key → Key → Bool
eq_key a b =
    (nat_eq a.from.net b.from.net && (nat_eq a.from.node b.from.node && nat_eq a.from.socket b.from.socket))
    && nat_eq a.tid b.tid

same_as : (a b : Key) → eq_key a b ≡ same_key a b
same_as a b = regrouped (nat_eq a.from.net b.from.net) (nat_eq a.from.node b.from.node)
    (nat_eq a.from.socket b.from.socket) (nat_eq a.tid b.tid)

-- it finds the record that has the key
pub finds_key : (key : Key) (r : Record) → eq_key key (key_of r) ≡ is_key key r
finds_key key r =
    (λ j. (turned key.from.net r.key.from.net j
    && (turned key.from.node r.key.from.node j && turned key.from.socket r.key.from.socket j))
    && turned key.tid r.key.tid j)
    ∙ same_as r.key key

-- ---- the table of records

all_as : (a : Key) (ks : List Key) → AllByRecursion (λ k. eq_key a k ≡ false) ks
    → AllByRecursion (λ k. same_key a k ≡ false) ks
all_as a [] h = tt
all_as a (k ∷ ks) h = (sym (same_as a k) ∙ h.0, all_as a ks h.1)

apart_as : (ks : List Key) → IsDistinct eq_key ks → IsDistinct same_key ks
unfolding IsDistinct
apart_as [] h = tt
apart_as (k ∷ ks) h = (all_as k ks h.0, apart_as ks h.1)

pub filed : (t : Rows Key Record) → AreKeyed key_of t → IsDistinct eq_key t.keys → AreFiled t
filed t keyed apart = record { keyed = keyed; apart = subst (IsDistinct same_key) keyed (apart_as t.keys apart) }

pub none_apart : AreApart []
unfolding IsDistinct
none_apart = tt

-- what finds the key finds the record
pub position_by : (key : Key) (t : Rows Key Record) → AreFiled t
    → position_from (eq_key key) 0 t.keys ≡ position_from (is_key key) 0 t.items
position_by key t f = ap (position_from (eq_key key) 0) f.keyed ∙ go 0 t.items
  where
    go : (n : ℕ) (rs : List Record)
        → position_from (eq_key key) n (map key_of rs) ≡ position_from (is_key key) n rs
    go n [] = refl
    go n (r ∷ rs) = rw (finds_key key r, go (n + 1) rs) refl

-- a record that changes under its key
pub filed_set : (t now : Rows Key Record) → AreFiled t → now.keys ≡ t.keys → t.keys ≡ map key_of now.items
    → AreFiled now
filed_set t now f keys items = record {
  keyed = keys ∙ items;
  apart = subst (IsDistinct same_key) (sym f.keyed ∙ items) f.apart;
}

-- a request that comes again leaves the key of its record
pub key_kept : {E : Type 0} (r : Result Reception E) (e : Repeat) (old new : Record) (a b : Outbox)
    → IfOk r (λ x. IsRepeat e x old new a b) → OnErr r (new ≡ old) → new.key ≡ old.key
key_kept (Ok x) e old new a b ok err = ap key_of ok.is_new
key_kept (Err x) e old new a b ok err = ap key_of err

-- ---- searches

pub no_position : {X : Type 0} (p : X → Bool) (n : ℕ) (xs : List X) → find p xs ≡ None → position_from p n xs ≡ None
no_position p n [] h = refl
no_position p n (x ∷ xs) h = go (p x) h (λ g. no_position p (n + 1) xs g)
  where
    go : (b : Bool) → cond b (Some x) (find p xs) ≡ None → (find p xs ≡ None → position_from p (n + 1) xs ≡ None)
        → cond b (Some n) (position_from p (n + 1) xs) ≡ None
    go true e ih = absurd (cc)
    go false e ih = ih e

-- a test of keys, over the keys of records
any_key : (p : Key → Bool) (rs : List Record) → list_any p (map key_of rs) ≡ list_any (λ r. p (key_of r)) rs
any_key p [] = refl
any_key p (r ∷ rs) = ap (λ b. p (key_of r) || b) (any_key p rs)

pub any_keyed : (p : Key → Bool) (t : Rows Key Record) → AreKeyed key_of t
    → list_any p t.keys ≡ list_any (λ r. p (key_of r)) t.items
any_keyed p t keyed = ap (list_any p) keyed ∙ any_key p t.items

-- The records of one key, as others come and go.
use Rattle.std.proofs.Common.{◌≡◌, Bool, true, false, cond, List, [], ◌∷◌, ◌++◌, Option, Some, None, refl, sym, ap, ◌∙◌}
use Rattle.std.specs.Prelude.{find}
use Rattle.std.proofs.lemmas.Bool.{eq-eqb}
use Rattle.at_ddp.proofs.Octets.{same_address_itself, same_both}
use Rattle.at_atp_responder.specs.Once.{same_key}
use Rattle.at_atp_responder.specs.Records.{Record, is_key}
use Rattle.at_ddp.specs.Tables.{replaced, without_first}
use Rattle.at_atp_responder.specs.declared.reception.Key.{Key}

pub one_key : (k key : Key) → same_key k key ≡ true → k ≡ key
one_key k key h = let both = same_both k.from key.from k.tid key.tid h in
    λ i. record { from = both.0 i; tid = both.1 i }

pub same_itself : (key : Key) → same_key key key ≡ true
same_itself key = rw (same_address_itself key.from, eq-eqb key.tid key.tid refl) refl

-- the records of a key, in order
abbrev pub those : Key → List Record → List Record
those key [] = []
those key (r ∷ rs) = cond (is_key key r) (r ∷ those key rs) (those key rs)

abbrev pub first : List Record → Option Record
first [] = None
first (r ∷ rs) = Some r

abbrev pub first_set : Record → List Record → List Record
first_set y [] = []
first_set y (r ∷ rs) = y ∷ rs

abbrev pub rest : List Record → List Record
rest [] = []
rest (r ∷ rs) = rs

-- a record joins the records of its key, and no others
abbrev with_one : Bool → Record → List Record → List Record
with_one b r rs = cond b (r ∷ rs) rs

pub find_those : (key : Key) (rs : List Record) → find (is_key key) rs ≡ first (those key rs)
find_those key [] = refl
find_those key (r ∷ rs) = go (find_those key rs) (is_key key r)
  where
    go : find (is_key key) rs ≡ first (those key rs) → (b : Bool) → cond b (Some r) (find (is_key key) rs)
        ≡ first (cond b (r ∷ those key rs) (those key rs))
    go ih true = refl
    go ih false = ih

pub none_those : (key : Key) (rs : List Record) → find (is_key key) rs ≡ None → those key rs ≡ []
none_those key rs none = go (those key rs) (sym (find_those key rs) ∙ none)
  where
    go : (l : List Record) → first l ≡ None → l ≡ []
    go [] h = refl
    go (r ∷ l) h = absurd (cc)

pub those_first : (key : Key) (r : Record) (rs : List Record) → is_key key r ≡ true → those key (r ∷ rs)
    ≡ r ∷ those key rs
those_first key r rs is = ap (λ b. with_one b r (those key rs)) is

those_other : (key : Key) (r : Record) (rs : List Record) → is_key key r ≡ false → those key (r ∷ rs) ≡ those key rs
those_other key r rs other = ap (λ b. with_one b r (those key rs)) other

pub those_last : (key : Key) (x : Record) (rs : List Record) → those key (rs ++ x ∷ [])
    ≡ those key rs ++ those key (x ∷ [])
those_last key x [] = refl
those_last key x (r ∷ rs) = go (those_last key x rs) (is_key key r)
  where
    go : those key (rs ++ x ∷ []) ≡ those key rs ++ those key (x ∷ []) → (b : Bool)
        → with_one b r (those key (rs ++ x ∷ [])) ≡ with_one b r (those key rs) ++ those key (x ∷ [])
    go ih true = ap (λ l. r ∷ l) ih
    go ih false = ih

pub those_replaced : (key : Key) (y : Record) (rs : List Record) → is_key key y ≡ true
    → those key (replaced (is_key key) y rs) ≡ first_set y (those key rs)
those_replaced key y [] is = refl
those_replaced key y (r ∷ rs) is = go (those_replaced key y rs is) (is_key key r) refl
  where
    go : those key (replaced (is_key key) y rs) ≡ first_set y (those key rs) → (b : Bool) → is_key key r ≡ b
        → those key (cond b (y ∷ rs) (r ∷ replaced (is_key key) y rs)) ≡ first_set y (with_one b r (those key rs))
    go ih true e = those_first key y rs is
    go ih false e = those_other key r (replaced (is_key key) y rs) e ∙ ih

pub those_without : (key : Key) (rs : List Record) → those key (without_first (is_key key) rs) ≡ rest (those key rs)
those_without key [] = refl
those_without key (r ∷ rs) = go (those_without key rs) (is_key key r) refl
  where
    go : those key (without_first (is_key key) rs) ≡ rest (those key rs) → (b : Bool) → is_key key r ≡ b
        → those key (cond b rs (r ∷ without_first (is_key key) rs)) ≡ rest (with_one b r (those key rs))
    go ih true e = refl
    go ih false e = those_other key r (without_first (is_key key) rs) e ∙ ih

-- ---- another key's records

not_its : (key k : Key) (r : Record) → same_key k key ≡ false → is_key k r ≡ true → is_key key r ≡ false
not_its key k r other is = ap (λ x. same_key x key) (one_key r.key k is) ∙ other

pub others_last : (key : Key) (x : Record) (rs : List Record) → is_key key x ≡ false → those key (rs ++ x ∷ [])
    ≡ those key rs
others_last key x [] other = those_other key x [] other
others_last key x (r ∷ rs) other = go (others_last key x rs other) (is_key key r)
  where
    go : those key (rs ++ x ∷ []) ≡ those key rs → (b : Bool) → with_one b r (those key (rs ++ x ∷ []))
        ≡ with_one b r (those key rs)
    go ih true = ap (λ l. r ∷ l) ih
    go ih false = ih

pub others_replaced : (key k : Key) (y : Record) (rs : List Record) → same_key k key ≡ false → is_key k y ≡ true
    → those key (replaced (is_key k) y rs) ≡ those key rs
others_replaced key k y [] other is = refl
others_replaced key k y (r ∷ rs) other is = go (others_replaced key k y rs other is) (is_key k r) refl
  where
    go : those key (replaced (is_key k) y rs) ≡ those key rs → (b : Bool) → is_key k r ≡ b
        → those key (cond b (y ∷ rs) (r ∷ replaced (is_key k) y rs)) ≡ those key (r ∷ rs)
    go ih true e = those_other key y rs (not_its key k y other is)
        ∙ sym (those_other key r rs (not_its key k r other e))
    go ih false e = ap (λ l. with_one (is_key key r) r l) ih

pub others_without : (key k : Key) (rs : List Record) → same_key k key ≡ false
    → those key (without_first (is_key k) rs) ≡ those key rs
others_without key k [] other = refl
others_without key k (r ∷ rs) other = go (others_without key k rs other) (is_key k r) refl
  where
    go : those key (without_first (is_key k) rs) ≡ those key rs → (b : Bool) → is_key k r ≡ b
        → those key (cond b rs (r ∷ without_first (is_key k) rs)) ≡ those key (r ∷ rs)
    go ih true e = sym (those_other key r rs (not_its key k r other e))
    go ih false e = ap (λ l. with_one (is_key key r) r l) ih

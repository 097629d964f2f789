-- The one record of a key, and the answer that it keeps.
use Rattle.std.proofs.Common.{◌≡◌, Bool, true, false, cond, List, [], ◌∷◌, ◌++◌, Option, Some, refl, sym, ap, subst}
use Rattle.std.proofs.Common.{◌∙◌}
use Rattle.std.specs.Prelude.{find}
use Rattle.std.proofs.lemmas.Bool.{true≢false, or_from, or_parts, eq-eqb}
use Rattle.at_ddp.specs.Tables.{replaced, without_first}
use Rattle.at_ddp.proofs.Alls.{found_passes}
use Rattle.at_ddp.proofs.Octets.{same_address_itself}
use Rattle.at_atp_frame.specs.Packets.{Packet}
use Rattle.at_atp_responder.specs.declared.reception.Key.{Key}
use Rattle.at_atp_responder.specs.Once.{same_key, stands}
use Rattle.at_atp_responder.specs.Records.{State, Waiting, Answered, Released, Record, is_key}
use Rattle.at_atp_responder.proofs.RecordLemmas.{own}
use Rattle.at_atp_responder.proofs.OnceLemmas.{stands_first, stands_last, stands_replaced, stands_without}

-- an answer that is kept is this one
abbrev pub HasAnswer : State → Option (List Packet) → Type 0
HasAnswer (Waiting xo bitmap) a = Unit {0}
HasAnswer (Answered packets) a = a ≡ Some packets
HasAnswer Released a = Unit {0}

abbrev pub Pick : Bool → Type 0 → Type 0 → Type 0
Pick true P Q = P
Pick false P Q = Q

-- one record of a key stands at most, and it has this answer
abbrev pub Sole : Key → Option (List Packet) → List Record → Type 0
Sole key a [] = Unit {0}
Sole key a (r ∷ rs) = Pick (is_key key r) (HasAnswer r.state a × (stands key rs ≡ false)) (Sole key a rs)

itself : (key : Key) → same_key key key ≡ true
itself key = rw (same_address_itself key.from, eq-eqb key.tid key.tid refl) refl

pub one_key : (key k : Key) → same_key k key ≡ true → k ≡ key
one_key key k e = own key (record { key = k; state = Released }) e

rest_false : (key : Key) (r : Record) (rs : List Record) → stands key (r ∷ rs) ≡ false → (same_key r.key key ≡ false)
    × (stands key rs ≡ false)
rest_false key r rs h = or_parts (same_key r.key key) (stands key rs) (sym (stands_first key r rs) ∙ h)

pub none_sole : (key : Key) (a : Option (List Packet)) (rs : List Record) → stands key rs ≡ false → Sole key a rs
none_sole key a [] h = tt
none_sole key a (r ∷ rs) h =
    let parts = rest_false key r rs h in
    subst (λ b. Pick b (HasAnswer r.state a × (stands key rs ≡ false)) (Sole key a rs)) (sym parts.0)
    (none_sole key a rs parts.1)

pub sole_found : (key : Key) (a : Option (List Packet)) (rs : List Record) (r : Record) → find (is_key key) rs ≡ Some r
    → Sole key a rs → HasAnswer r.state a
sole_found key a [] r is h = absurd (cc)
sole_found key a (x ∷ rs) r is h = go (sole_found key a rs r) (is_key key x) is h
  where
    go : (find (is_key key) rs ≡ Some r → Sole key a rs → HasAnswer r.state a) → (b : Bool)
        → cond b (Some x) (find (is_key key) rs) ≡ Some r
        → Pick b (HasAnswer x.state a × (stands key rs ≡ false)) (Sole key a rs) → HasAnswer r.state a
    go ih true e g = let same : x ≡ r = cc in subst (λ (y : Record). HasAnswer y.state a) same g.0
    go ih false e g = ih e g

-- a record that is the only one of its key joins
pub sole_last : (key : Key) (a : Option (List Packet)) (x : Record) (rs : List Record) → Sole key a rs
    → (same_key x.key key ≡ true → HasAnswer x.state a × (stands key rs ≡ false)) → Sole key a (rs ++ x ∷ [])
sole_last key a x [] h is = go (is_key key x) refl
  where
    go : (b : Bool) → same_key x.key key ≡ b → Pick b (HasAnswer x.state a × (stands key [] ≡ false)) (Unit {0})
    go true e = ((is e).0, refl)
    go false e = tt
sole_last key a x (r ∷ rs) h is = go (sole_last key a x rs) (is_key key r) refl h
  where
    other : same_key r.key key ≡ true → (b : Bool) → same_key x.key key ≡ b → same_key x.key key ≡ false
    other e true f = absurd (true≢false (sym e ∙ (rest_false key r rs (is f).1).0))
    other e false f = f

    go : (Sole key a rs → (same_key x.key key ≡ true → HasAnswer x.state a × (stands key rs ≡ false))
        → Sole key a (rs ++ x ∷ [])) → (b : Bool) → is_key key r ≡ b
        → Pick b (HasAnswer r.state a × (stands key rs ≡ false)) (Sole key a rs) →
        Pick b (HasAnswer r.state a × (stands key (rs ++ x ∷ []) ≡ false)) (Sole key a (rs ++ x ∷ []))
    go ih true e g = (
      g.0,
      stands_last key x rs
          ∙ or_from (stands key rs) (same_key x.key key) g.1 (other e (same_key x.key key) refl),
    )
    go ih false e g = ih g (λ f. ((is f).0, (rest_false key r rs (is f).1).1))

-- a record of another key changes
pub sole_other : (key k : Key) (a : Option (List Packet)) (y : Record) (rs : List Record) → y.key ≡ k → same_key k key
    ≡ false → Sole key a rs → Sole key a (replaced (is_key k) y rs)
sole_other key k a y [] same other h = tt
sole_other key k a y (r ∷ rs) same other h = go (sole_other key k a y rs same other) (is_key k r) refl h
  where
    not_y : same_key y.key key ≡ false
    not_y = ap (λ x. same_key x key) same ∙ other

    of : (Sole key a rs → Sole key a (replaced (is_key k) y rs)) → (b : Bool)
        → Pick b (HasAnswer r.state a × (stands key rs ≡ false)) (Sole key a rs)
        → Pick b (HasAnswer r.state a × (stands key (replaced (is_key k) y rs) ≡ false))
        (Sole key a (replaced (is_key k) y rs))
    of ih true g = (g.0, stands_replaced key k y rs same ∙ g.1)
    of ih false g = ih g

    go : (Sole key a rs → Sole key a (replaced (is_key k) y rs)) → (c : Bool) → is_key k r ≡ c → Sole key a (r ∷ rs)
        → Sole key a (cond c (y ∷ rs) (r ∷ replaced (is_key k) y rs))
    go ih true e g =
        let not_r : same_key r.key key ≡ false = ap (λ x. same_key x key) (own k r e) ∙ other in
        subst (λ b. Pick b (HasAnswer y.state a × (stands key rs ≡ false)) (Sole key a rs)) (sym not_y)
        (subst (λ b. Pick b (HasAnswer r.state a × (stands key rs ≡ false)) (Sole key a rs)) not_r g)
    go ih false e g = of ih (is_key key r) g

-- the record of this key changes
pub sole_set : (key : Key) (a b : Option (List Packet)) (y : Record) (rs : List Record) → y.key ≡ key
    → HasAnswer y.state b → Sole key a rs → Sole key b (replaced (is_key key) y rs)
sole_set key a b y [] same has h = tt
sole_set key a b y (r ∷ rs) same has h = go (sole_set key a b y rs same has) (is_key key r) refl h
  where
    is_y : same_key y.key key ≡ true
    is_y = ap (λ x. same_key x key) same ∙ itself key

    go : (Sole key a rs → Sole key b (replaced (is_key key) y rs)) → (c : Bool) → is_key key r ≡ c
        → Pick c (HasAnswer r.state a × (stands key rs ≡ false)) (Sole key a rs)
        → Sole key b (cond c (y ∷ rs) (r ∷ replaced (is_key key) y rs))
    go ih true e g = subst (λ c. Pick c (HasAnswer y.state b × (stands key rs ≡ false)) (Sole key b rs)) (sym is_y)
        (has, g.1)
    go ih false e g = subst (λ c. Pick c (HasAnswer r.state b × (stands key (replaced (is_key key) y rs) ≡ false))
        (Sole key b (replaced (is_key key) y rs))) (sym e) (ih g)

-- a record of another key goes
pub sole_but : (key k : Key) (a : Option (List Packet)) (rs : List Record) → same_key k key ≡ false → Sole key a rs
    → Sole key a (without_first (is_key k) rs)
sole_but key k a [] other h = tt
sole_but key k a (r ∷ rs) other h = go (sole_but key k a rs other) (is_key k r) refl h
  where
    of : (Sole key a rs → Sole key a (without_first (is_key k) rs)) → (b : Bool)
        → Pick b (HasAnswer r.state a × (stands key rs ≡ false)) (Sole key a rs)
        → Pick b (HasAnswer r.state a × (stands key (without_first (is_key k) rs) ≡ false))
        (Sole key a (without_first (is_key k) rs))
    of ih true g = (g.0, stands_without key (is_key k) rs g.1)
    of ih false g = ih g

    go : (Sole key a rs → Sole key a (without_first (is_key k) rs)) → (c : Bool) → is_key k r ≡ c → Sole key a (r ∷ rs)
        → Sole key a (cond c rs (r ∷ without_first (is_key k) rs))
    go ih true e g = subst (λ b. Pick b (HasAnswer r.state a × (stands key rs ≡ false)) (Sole key a rs))
        (ap (λ x. same_key x key) (own k r e) ∙ other) g
    go ih false e g = of ih (is_key key r) g

-- the record of this key goes
pub sole_gone : (key : Key) (a : Option (List Packet)) (rs : List Record) → Sole key a rs
    → stands key (without_first (is_key key) rs) ≡ false
sole_gone key a [] h = refl
sole_gone key a (r ∷ rs) h = go (sole_gone key a rs) (is_key key r) refl h
  where
    go : (Sole key a rs → stands key (without_first (is_key key) rs) ≡ false) → (c : Bool) → is_key key r ≡ c
        → Pick c (HasAnswer r.state a × (stands key rs ≡ false)) (Sole key a rs)
        → stands key (cond c rs (r ∷ without_first (is_key key) rs)) ≡ false
    go ih true e g = g.1
    go ih false e g = stands_first key r (without_first (is_key key) rs)
        ∙ or_from (same_key r.key key) (stands key (without_first (is_key key) rs)) e (ih g)

-- a record changes, and keeps what answer it has
pub sole_changed : (key k : Key) (a : Option (List Packet)) (r : Record) (s : State) (rs : List Record)
    → find (is_key k) rs ≡ Some r → (HasAnswer r.state a → HasAnswer s a) → Sole key a rs
    → Sole key a (replaced (is_key k) (record r { state = s }) rs)
sole_changed key k a r s rs is f h = go (same_key k key) refl
  where
    keyed : r.key ≡ k
    keyed = own k r (found_passes (is_key k) rs r is)

    go : (b : Bool) → same_key k key ≡ b → Sole key a (replaced (is_key k) (record r { state = s }) rs)
    go true e =
        let same : k ≡ key = one_key key k e in
        subst (λ x. Sole key a (replaced (is_key x) (record r { state = s }) rs)) (sym same)
        (sole_set key a a (record r { state = s }) rs (keyed ∙ same)
        (f (sole_found key a rs r (ap (λ x. find (is_key x) rs) (sym same) ∙ is) h)) h)
    go false e = sole_other key k a (record r { state = s }) rs keyed e h

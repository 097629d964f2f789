-- How many packets are sent: a bitmap of eight bits selects eight at most.
use Rattle.std.proofs.Common.{◌≡◌, ℕ, zero, suc, ◌+◌, ◌*◌, ◌<◌, ◌≤◌, Bool, true, false, cond, List, [], ◌∷◌, ◌++◌}
use Rattle.std.proofs.Common.{length, Option, Some, None, refl, sym, subst, arith}
use Rattle.std.specs.Prelude.{find, ◌==◌, ◌/◌, ◌%◌}
use Rattle.std.proofs.lemmas.Bool.{eqb-true}
use Rattle.at_ddp.specs.declared.address.Address.{Address}
use Rattle.at_ddp.proofs.Alls.{find_last}
use Rattle.at_atp_frame.specs.Frames.{Content, Request, Response, Release}
use Rattle.at_atp_frame.specs.Packets.{Packet}
use Rattle.at_atp_responder.specs.Records.{AsksForEight, Record, State, Waiting, Answered, Released, asked_for}
use Rattle.at_atp_responder.specs.Records.{came_again, is_key, is_passed_over, passed, release_came, released}
use Rattle.at_atp_responder.specs.Records.{repeated, request_came, responses, received}
use Rattle.at_atp_responder.specs.declared.reception.Key.{Key}
use Rattle.at_atp_responder.specs.declared.reception.Reception.TheVariants.{New}
use Rattle.at_atp_responder.proofs.WaitLemmas.{its_own, same_new}

-- the numbers of so many bits are below this
abbrev beyond : ℕ → ℕ
beyond zero = 1
beyond (suc bits) = 2 * beyond bits

selected : (bits : ℕ) (key : Key) (place bitmap : ℕ) (packets : List Packet) → bitmap < beyond bits
    → length (responses key place bitmap packets) ≤ bits
selected bits key place bitmap [] fits = omega arith
selected zero key place bitmap (p ∷ ps) fits =
    go (selected zero key (place + 1) (bitmap / 2) ps (omega (arith, fits))) (bitmap % 2 == 1) refl
  where
    go : length (responses key (place + 1) (bitmap / 2) ps) ≤ 0 → (b : Bool) → (bitmap % 2 == 1) ≡ b
        → length (cond b ((key.from, Response place (length ps == 0) false key.tid p.user p.data_) ∷ []) []
        ++ responses key (place + 1) (bitmap / 2) ps) ≤ 0
    go rest true odd = absurd (omega (arith, fits, eqb-true (bitmap % 2) 1 odd))
    go rest false even = rest
selected (suc bits) key place bitmap (p ∷ ps) fits =
    go (selected bits key (place + 1) (bitmap / 2) ps (omega (arith, fits))) (bitmap % 2 == 1)
  where
    go : length (responses key (place + 1) (bitmap / 2) ps) ≤ bits → (b : Bool)
        → length (cond b ((key.from, Response place (length ps == 0) false key.tid p.user p.data_) ∷ []) []
        ++ responses key (place + 1) (bitmap / 2) ps) ≤ suc bits
    go rest true = omega (arith, rest)
    go rest false = omega (arith, rest)

-- ---- a packet that came

again_few : (rs : List Record) (key : Key) (bitmap : ℕ) (r : Record) (s : State) → bitmap < 256
    → length (came_again rs key r (repeated key bitmap s)).sent ≤ 8
again_few rs key bitmap r (Waiting xo old) fits = omega arith
again_few rs key bitmap r (Answered packets) fits = selected 8 key 0 bitmap packets fits
again_few rs key bitmap r Released fits = omega arith

request_few : (rs : List Record) (key : Key) (xo : Bool) (bitmap : ℕ) (o : Option Record) → bitmap < 256
    → length (request_came rs key xo bitmap o).sent ≤ 8
request_few rs key xo bitmap None fits = omega arith
request_few rs key xo bitmap (Some r) fits = again_few rs key bitmap r r.state fits

release_few : (rs : List Record) (key : Key) (o : Option Record) → length (release_came rs key o).sent ≤ 8
release_few rs key None = omega arith
release_few rs key (Some r) = go r.state
  where
    go : (s : State) → length (came_again rs key r (released s)).sent ≤ 8
    go (Waiting xo bitmap) = omega arith
    go (Answered packets) = omega arith
    go Released = omega arith

pub taken_few : (rs : List Record) (from : Address) (f : Content) → AsksForEight f
    → length (received rs from f).sent ≤ 8
taken_few rs from (Response place eom sts tid user bytes) fits = omega arith
taken_few rs from (Release tid) fits =
    let key : Key = record { from = from; tid = tid } in release_few rs key (find (is_key key) rs)
taken_few rs from (Request bitmap xo timer tid user bytes) fits = go (is_passed_over bitmap)
  where
    key : Key
    key = record { from = from; tid = tid }

    go : (b : Bool) → length (cond b (passed rs) (request_came rs key xo bitmap (find (is_key key) rs))).sent ≤ 8
    go true = omega arith
    go false = request_few rs key xo bitmap (find (is_key key) rs) fits

-- ---- the answer to a new request

waiting_few : (key : Key) (xo : Bool) (bitmap : ℕ) (packets : List Packet) (o : Option Record) → bitmap < 256
    → o ≡ Some (record { key = key; state = Waiting xo bitmap }) → length (asked_for o key packets) ≤ 8
waiting_few key xo bitmap packets o fits is =
    subst (λ r. length (asked_for r key packets) ≤ 8) (sym is) (selected 8 key 0 bitmap packets fits)

new_few : (rs : List Record) (own : Key) (xo : Bool) (bitmap : ℕ) (key : Key) (packets : List Packet)
    (o : Option Record) → bitmap < 256 → find (is_key own) rs ≡ o → (request_came rs own xo bitmap o).reception
    ≡ New key
    → length (asked_for (find (is_key key) (request_came rs own xo bitmap o).after) key packets) ≤ 8
new_few rs own xo bitmap key packets None fits none h =
    let mine : Record = record { key = own; state = Waiting xo bitmap } in
    let last = find_last (is_key own) rs mine none (its_own own xo bitmap) in
    let few = waiting_few own xo bitmap packets (find (is_key own) (rs ++ mine ∷ [])) fits last in
    subst (λ k. length (asked_for (find (is_key k) (rs ++ mine ∷ [])) k packets) ≤ 8) (same_new own key h) few
new_few rs own xo bitmap key packets (Some r) fits some h = go r.state h
  where
    go : (s : State) → (came_again rs own r (repeated own bitmap s)).reception ≡ New key
        → length (asked_for (find (is_key key) (came_again rs own r (repeated own bitmap r.state)).after) key packets)
        ≤ 8
    go (Waiting x old) g = absurd (cc)
    go (Answered kept) g = absurd (cc)
    go Released g = absurd (cc)

pub reply_few : (rs : List Record) (from : Address) (f : Content) (key : Key) (packets : List Packet) → AsksForEight f
    → (received rs from f).reception ≡ New key
    → length (asked_for (find (is_key key) (received rs from f).after) key packets) ≤ 8
reply_few rs from (Response place eom sts tid user bytes) key packets fits h = absurd (cc)
reply_few rs from (Release tid) key packets fits h = absurd (none (find (is_key own) rs) h)
  where
    own : Key
    own = record { from = from; tid = tid }

    of : (r : Record) (s : State) → (came_again rs own r (released s)).reception ≡ New key → ⊥
    of r (Waiting xo bitmap) g = cc
    of r (Answered kept) g = cc
    of r Released g = cc

    none : (o : Option Record) → (release_came rs own o).reception ≡ New key → ⊥
    none None g = cc
    none (Some r) g = of r r.state g
reply_few rs from (Request bitmap xo timer tid user bytes) key packets fits h = go (is_passed_over bitmap) h
  where
    own : Key
    own = record { from = from; tid = tid }

    go : (b : Bool) → (cond b (passed rs) (request_came rs own xo bitmap (find (is_key own) rs))).reception ≡ New key
        → length (asked_for (find (is_key key)
        (cond b (passed rs) (request_came rs own xo bitmap (find (is_key own) rs))).after) key packets) ≤ 8
    go true g = absurd (cc)
    go false g = new_few rs own xo bitmap key packets (find (is_key own) rs) fits refl g

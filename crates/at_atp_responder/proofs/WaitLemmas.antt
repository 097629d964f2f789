-- New requests that wait, and how much is sent of an answer.
use Rattle.std.proofs.Common.{◌≡◌, ℕ, ◌+◌, ◌≤◌, Bool, true, false, cond, List, [], ◌∷◌, ◌++◌, length, Option, Some}
use Rattle.std.proofs.Common.{None, refl, sym, ap, ◌∙◌, arith, lit≤}
use Rattle.std.specs.Prelude.{find, ◌==◌, ◌/◌, ◌%◌}
use Rattle.std.proofs.lemmas.Bool.{eq-eqb}
use Rattle.at_ddp.specs.declared.address.Address.{Address}
use Rattle.at_ddp.proofs.Octets.{same_address_itself}
use Rattle.at_ddp.proofs.Alls.{find_last}
use Rattle.at_atp_frame.specs.Frames.{Content, Request, Response, Release, number_of}
use Rattle.at_atp_frame.specs.Packets.{Packet}
use Rattle.at_atp_responder.specs.Records.{State, Waiting, Answered, Released, Record, is_key, responses, repeated}
use Rattle.at_atp_responder.specs.Records.{released, came_again, request_came, release_came, passed, is_passed_over}
use Rattle.at_atp_responder.specs.Records.{received, record_fault, asked_for, asked_bitmap}
use Rattle.at_atp_responder.specs.declared.reception.Key.{Key}
use Rattle.at_atp_responder.specs.declared.reception.Reception.TheVariants.{New}

-- ---- new requests

pub same_new : (k key : Key) → New k ≡ New key → k ≡ key
same_new k key h = cc

pub its_own : (key : Key) (xo : Bool) (bitmap : ℕ) → is_key key (record { key = key; state = Waiting xo bitmap }) ≡ true
its_own key xo bitmap = rw (same_address_itself key.from, eq-eqb key.tid key.tid refl) refl

-- a request that is delivered has a record that waits, and nothing is sent for it
abbrev pub IsWaiting : Address → ℕ → Key → List Record → List (Address × Content) → Type 0
IsWaiting from tid key after sent = (record_fault (find (is_key key) after) ≡ None) × (sent ≡ [])
    × (key ≡ record { from = from; tid = tid })

came_new : (rs : List Record) (from : Address) (tid : ℕ) (xo : Bool) (bitmap : ℕ) (key : Key) (o : Option Record)
    → find (is_key (record { from = from; tid = tid })) rs ≡ o
    → (request_came rs (record { from = from; tid = tid }) xo bitmap o).reception ≡ New key →
    IsWaiting from tid key (request_came rs (record { from = from; tid = tid }) xo bitmap o).after
    (request_came rs (record { from = from; tid = tid }) xo bitmap o).sent
came_new rs from tid xo bitmap key None none h =
    let same = same_new (record { from = from; tid = tid }) key h in (
      ap (λ k. record_fault (find (is_key k)
          (rs ++ record { key = record { from = from; tid = tid }; state = Waiting xo bitmap } ∷ []))) (sym same)
          ∙ ap record_fault (find_last (is_key (record { from = from; tid = tid })) rs
          (record { key = record { from = from; tid = tid }; state = Waiting xo bitmap }) none
          (its_own (record { from = from; tid = tid }) xo bitmap)),
      refl,
      sym same,
    )
came_new rs from tid xo bitmap key (Some r) some h = go r.state h
  where
    go : (s : State) → (came_again rs (record { from = from; tid = tid }) r
        (repeated (record { from = from; tid = tid }) bitmap s)).reception ≡ New key
        → IsWaiting from tid key
        (came_again rs (record { from = from; tid = tid }) r
        (repeated (record { from = from; tid = tid }) bitmap s)).after
        (came_again rs (record { from = from; tid = tid }) r
        (repeated (record { from = from; tid = tid }) bitmap s)).sent
    go (Waiting x old) g = absurd (cc)
    go (Answered packets) g = absurd (cc)
    go Released g = absurd (cc)

pub taken_new_waits : (rs : List Record) (from : Address) (f : Content) (key : Key) → (received rs from f).reception
    ≡ New key → IsWaiting from (number_of f) key (received rs from f).after (received rs from f).sent
taken_new_waits rs from (Response place eom sts tid user bytes) key h = absurd (cc)
taken_new_waits rs from (Release tid) key h = go (find (is_key (record { from = from; tid = tid })) rs) h
  where
    of : (r : Record) (s : State) → (came_again rs (record { from = from; tid = tid }) r (released s)).reception
        ≡ New key → ⊥
    of r (Waiting xo bitmap) g = cc
    of r (Answered packets) g = cc
    of r Released g = cc

    go : (o : Option Record) → (release_came rs (record { from = from; tid = tid }) o).reception ≡ New key
        → IsWaiting from tid key (release_came rs (record { from = from; tid = tid }) o).after
        (release_came rs (record { from = from; tid = tid }) o).sent
    go None g = absurd (cc)
    go (Some r) g = absurd (of r r.state g)
taken_new_waits rs from (Request bitmap xo timer tid user bytes) key h = go (is_passed_over bitmap) h
  where
    go : (b : Bool) → (cond b (passed rs)
        (request_came rs (record { from = from; tid = tid }) xo bitmap
        (find (is_key (record { from = from; tid = tid })) rs))).reception ≡ New key →
        IsWaiting from tid key (cond b (passed rs)
        (request_came rs (record { from = from; tid = tid }) xo bitmap
        (find (is_key (record { from = from; tid = tid })) rs))).after
        (cond b (passed rs) (request_came rs (record { from = from; tid = tid }) xo bitmap
        (find (is_key (record { from = from; tid = tid })) rs))).sent
    go true g = absurd (cc)
    go false g = came_new rs from tid xo bitmap key (find (is_key (record { from = from; tid = tid })) rs) refl g

-- ---- answers

responses_few : (key : Key) (place bitmap : ℕ) (packets : List Packet)
    → length (responses key place bitmap packets) ≤ length packets
responses_few key place bitmap [] = lit≤ tt
responses_few key place bitmap (p ∷ ps) = go (bitmap % 2 == 1) (responses_few key (place + 1) (bitmap / 2) ps)
  where
    go : (b : Bool) → length (responses key (place + 1) (bitmap / 2) ps) ≤ length ps
        → length (cond b ((key.from, Response place (length ps == 0) false key.tid p.user p.data_) ∷ []) []
        ++ responses key (place + 1) (bitmap / 2) ps) ≤ length (p ∷ ps)
    go true le = omega (arith, le)
    go false le = omega (arith, le)

pub asked_few : (o : Option Record) (key : Key) (packets : List Packet)
    → length (asked_for o key packets) ≤ length packets
asked_few None key packets = omega arith
asked_few (Some r) key packets = responses_few key 0 (asked_bitmap r.state) packets

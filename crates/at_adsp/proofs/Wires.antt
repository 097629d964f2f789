-- An end whose numbers may be of any size, as the cable has it.
use Rattle.std.proofs.Common.{◌≡◌, ℕ, ◌+◌, ◌%◌, ◌^◌, Bool, true, false, List, [], ◌∷◌, ◌++◌, length, map, Option, Some}
use Rattle.std.proofs.Common.{None, refl, sym, ap, ◌∙◌}
use Rattle.std.proofs.Math.Nat.{mod-mod}
use Rattle.at_adsp_frame.specs.Segments.{Content, Data, Part, Probe, ResetAck}
use Rattle.at_adsp_end.specs.Cuts.{Piece, items_of, numbered, pieces}
use Rattle.at_adsp_end.specs.Ends.{Change, EndState, control, packet}
use Rattle.at_adsp_end.specs.Hearing.{Advises, Answers, Asks, Brings, Closes, Resets, Saying, Told, after_hearing}
use Rattle.at_adsp_end.specs.Hearing.{heard, if_asked, jumped, taken, taking}
use Rattle.at_adsp_end.specs.declared.forward.Forward.TheVariants.{Jump, Older, Beyond}
use Rattle.at_adsp_end.specs.declared.change.EndChange.TheVariants.{Heard, Dropped, Closed}
use Rattle.at_adsp_end.specs.Positions.{whole, wire}
use Rattle.at_adsp_end.specs.Sending.{acknowledged, going, hearing, repeated, sending, shut}
use Rattle.at_adsp_end.specs.declared.item.Item.{Item}
use Rattle.at_adsp.specs.Wires.{wired, wired_outcome, wired_segment}
use Rattle.at_adsp.proofs.Rounds.{at_adds}
use Rattle.std.proofs.lemmas.List.{map-append}

abbrev M : ℕ
M = 2 ^ 32

-- data on the cable
pub numbered_wired : (e : EndState) (first position : ℕ) (ps : List Piece) → first % M ≡ position % M
    → numbered wire (wired e) first ps ≡ map wired_segment (numbered whole e position ps)
numbered_wired e first position [] same = refl
numbered_wired e first position (p ∷ ps) same =
    let k : ℕ = length (items_of p) in
    let rest = numbered_wired e (first + k) (position + k) ps
    (sym (at_adds M first k) ∙ ap (λ x. (x + k) % M) same ∙ at_adds M position k) in
    λ i. packet (wired e) (same i) true (Data p.end p.bytes) ∷ rest i

-- what goes now, and what goes again
pub sending_wired : (e : EndState) → (sending wire (wired e)).sent ≡ map wired_segment (sending whole e).sent
sending_wired e =
    let n : ℕ = length e.sender.unacknowledged in
    numbered_wired e (e.sender.front % M + n) (e.sender.front + n) (pieces [] (going e.sender))
    (at_adds M e.sender.front n)

pub repeated_wired : (e : EndState) → repeated wire (wired e) ≡ map wired_segment (repeated whole e)
repeated_wired e = numbered_wired e (e.sender.front % M) e.sender.front (pieces [] e.sender.unacknowledged)
    (mod-mod e.sender.front M)

abbrev pub wired_change : Change → Change
wired_change c = record { after = wired c.after; sent = map wired_segment c.sent }

-- an end sends on
pub sends_on_wired : (e : EndState) → sending wire (wired e) ≡ wired_change (sending whole e)
sends_on_wired e = λ i. record { after = wired (sending whole e).after; sent = sending_wired e i }

-- an acknowledgement
pub hearing_wired : (e : EndState) (window : ℕ) (acks : Option ℕ) → hearing wire (wired e) window acks
    ≡ wired_change (hearing whole e window acks)
hearing_wired e window None = refl
hearing_wired e window (Some k) =
    let f : EndState = record e { sender = acknowledged whole k window e.sender; ticks = 0 } in
    (λ i. sending wire (record
    (wired f) { sender = record (wired f).sender { front = at_adds M e.sender.front k i } })) ∙ sends_on_wired f

-- a packet without data
pub control_wired : (e : EndState) (ack : Bool) (body : Part) → control wire (wired e) ack body
    ≡ wired_segment (control whole e ack body)
control_wired e ack body = λ i. packet (wired e) (at_adds M e.sender.front (length e.sender.unacknowledged) i) ack body

-- what is received, and what is passed by a reset
pub taking_wired : (e : EndState) (items : List Item) → taking wire (wired e) items ≡ wired (taking whole e items)
taking_wired e items = λ i. record
    (wired e) {
      receiver = record {
        received = at_adds M e.receiver.received (length (taken e items)) i;
        unread = e.receiver.unread ++ taken e items;
      };
    }

pub jumped_wired : (e : EndState) (d : ℕ) → jumped wire (wired e) d ≡ wired (jumped whole e d)
jumped_wired e d = λ i. record
    (wired e) { receiver = record { received = at_adds M e.receiver.received d i; unread = [] } }

pub shut_wired : (e : EndState) → shut wire (wired e) ≡ wired (shut whole e)
shut_wired e = λ i. record
    (wired (shut whole e)) {
      sender =
          record (wired (shut whole e)).sender { front = at_adds M e.sender.front (length e.sender.unacknowledged) i };
    }

-- ---- what an end hears

-- more is sent
and_more : (a x y : List Content) → x ≡ map wired_segment y → map wired_segment a ++ x ≡ map wired_segment (a ++ y)
and_more a x y h = ap (λ l. map wired_segment a ++ l) h ∙ sym (map-append wired_segment a y)

asked_wired : (b : Bool) (e : EndState) → if_asked wire b (wired e) ≡ map wired_segment (if_asked whole b e)
asked_wired true e = λ i. control_wired e false Probe i ∷ []
asked_wired false e = refl

abbrev ready : EndState → EndState
ready e = record e { sender = record e.sender { resetting = false } }

after_hearing_wired : (c : Change) (ack : Bool) (s : Saying) → after_hearing wire (wired_change c) ack s
    ≡ wired_outcome (after_hearing whole c ack s)
after_hearing_wired c ack (Brings items) =
    let f : EndState = taking whole c.after items in
    let sent : map wired_segment c.sent ++ if_asked wire ack (taking wire (wired c.after) items)
    ≡ map wired_segment (c.sent ++ if_asked whole ack f) =
    and_more c.sent (if_asked wire ack (taking wire (wired c.after) items)) (if_asked whole ack f)
    (ap (if_asked wire ack) (taking_wired c.after items) ∙ asked_wired ack f) in
    λ i. record {
      step = Heard c.after.id (length (taken c.after items));
      after = taking_wired c.after items i;
      sent = sent i;
    }
after_hearing_wired c ack Asks =
    λ i. record {
      step = Heard c.after.id 0;
      after = wired c.after;
      sent = and_more c.sent (if_asked wire ack (wired c.after)) (if_asked whole ack c.after)
          (asked_wired ack c.after) i;
    }
after_hearing_wired c ack Closes =
    λ i. record { step = Closed c.after.id; after = shut_wired c.after i; sent = map wired_segment c.sent }
after_hearing_wired c ack (Resets (Jump d)) =
    let f : EndState = jumped whole c.after d in
    let sent : map wired_segment c.sent ++ control wire (jumped wire (wired c.after) d) false ResetAck ∷ []
    ≡ map wired_segment (c.sent ++ control whole f false ResetAck ∷ []) =
    and_more c.sent (control wire (jumped wire (wired c.after) d) false ResetAck ∷ [])
    (control whole f false ResetAck ∷ [])
    (ap (λ (x : Content). x ∷ [])
    (ap (λ (x : EndState). control wire x false ResetAck) (jumped_wired c.after d)
    ∙ control_wired f false ResetAck)) in
    λ i. record { step = Dropped c.after.id; after = jumped_wired c.after d i; sent = sent i }
after_hearing_wired c ack (Resets Older) =
    λ i. record {
      step = Heard c.after.id 0;
      after = wired c.after;
      sent = and_more c.sent (control wire (wired c.after) false ResetAck ∷ [])
          (control whole c.after false ResetAck ∷ []) (λ j. control_wired c.after false ResetAck j ∷ []) i;
    }
after_hearing_wired c ack (Resets Beyond) =
    λ i. record { step = Heard c.after.id 0; after = wired c.after; sent = and_more c.sent [] [] refl i }
after_hearing_wired c ack (Answers false) =
    λ i. record { step = Heard c.after.id 0; after = wired c.after; sent = and_more c.sent [] [] refl i }
after_hearing_wired c ack (Answers true) =
    let f : EndState = ready c.after in
    let more : map wired_segment c.sent ++ (sending wire (wired f)).sent
    ≡ map wired_segment (c.sent ++ (sending whole f).sent) =
    and_more c.sent (sending wire (wired f)).sent (sending whole f).sent (sending_wired f) in
    let sent : (map wired_segment c.sent ++ (sending wire (wired f)).sent) ++ []
    ≡ map wired_segment ((c.sent ++ (sending whole f).sent) ++ []) =
    ap (λ l. l ++ []) more ∙ and_more (c.sent ++ (sending whole f).sent) [] [] refl in
    λ i. record { step = Heard c.after.id 0; after = wired (sending whole f).after; sent = sent i }
after_hearing_wired c ack Advises =
    λ i. record {
      step = (after_hearing whole c ack Advises).step;
      after = wired c.after;
      sent = and_more c.sent (repeated wire (wired c.after)) (repeated whole c.after) (repeated_wired c.after) i;
    }

-- what an open end does with what a segment tells
pub heard_wired : (e : EndState) (t : Told) → heard wire (wired e) t ≡ wired_outcome (heard whole e t)
heard_wired e t = ap (λ (c : Change). after_hearing wire c t.ack t.saying) (hearing_wired e t.window t.acks)
    ∙ after_hearing_wired (hearing whole e t.window t.acks) t.ack t.saying

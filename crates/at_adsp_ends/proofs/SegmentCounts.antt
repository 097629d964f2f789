-- How many segments an end sends at one event: no more than its queues have items, twice.
use Rattle.std.proofs.Common.{◌≡◌, ℕ, ◌+◌, ◌≤◌, Bool, true, false, cond, List, [], ◌∷◌, ◌++◌, length, take}
use Rattle.std.proofs.Common.{Option, Some, None, refl, arith}
use Rattle.std.specs.Prelude.{◌==◌}
use Rattle.std.proofs.lemmas.Bool.{eqb-true}
use Rattle.std.proofs.lemmas.List.{length-append, length-take, length-drop}
use Rattle.at_adsp_frame.specs.Segments.{Content, Reset, ResetAck}
use Rattle.at_adsp_end.specs.Calls.{is_last, probed, probes, sent_again, ticked, writing}
use Rattle.at_adsp_end.specs.Cuts.{Piece, items_of, last_piece, numbered, pieces}
use Rattle.at_adsp_end.specs.Ends.{Change, EndState, FitsRooms, Sender, control, places}
use Rattle.at_adsp_end.specs.Hearing.{Told, Saying, Brings, Asks, Closes, Resets, Answers, Advises, after_hearing}
use Rattle.at_adsp_end.specs.Hearing.{answer_came, heard, if_asked, jumped, reset_came, taking}
use Rattle.at_adsp_end.specs.Positions.{wire}
use Rattle.at_adsp_end.specs.Sending.{acknowledged, going, hearing, repeated, sending}
use Rattle.at_adsp_end.specs.declared.forward.Forward.{Forward}
use Rattle.at_adsp_end.specs.declared.forward.Forward.TheVariants.{Jump, Older, Beyond}
use Rattle.at_adsp_end.specs.declared.item.Item.{Item}
use Rattle.at_adsp_end.specs.declared.item.Item.TheVariants.{Byte, End}
use Rattle.at_adsp_end.specs.declared.phase.Phase.{Phase}
use Rattle.at_adsp_end.specs.declared.phase.Phase.TheVariants as phase
use Rattle.at_adsp_end.specs.declared.tick.Tick.{Tick}
use Rattle.at_adsp_end.specs.declared.tick.Tick.TheVariants as tick

-- ---- pieces

abbrev some : List ℕ → ℕ
some [] = 0
some (b ∷ got) = 1

some_most : (got : List ℕ) → some got ≤ 1
some_most [] = omega arith
some_most (b ∷ got) = omega arith

some_full : (got : List ℕ) → length got ≡ 572 → some got ≡ 1
some_full [] h = absurd (omega (arith, h))
some_full (b ∷ got) h = refl

last_few : (got : List ℕ) → length (last_piece got) ≤ some got
last_few [] = omega arith
last_few (b ∷ got) = omega arith

pieces_few : (xs : List Item) (got : List ℕ) → length (pieces got xs) ≤ length xs + some got
pieces_few [] got = omega (arith, last_few got)
pieces_few (End ∷ xs) got = let rest : length (pieces [] xs) ≤ length xs + 0 = pieces_few xs [] in omega (arith, rest)
pieces_few (Byte b ∷ xs) got = go (pieces_few xs (b ∷ [])) (pieces_few xs (got ++ b ∷ [])) (length got == 572) refl
  where
    go : length (pieces (b ∷ []) xs) ≤ length xs + 1
        → length (pieces (got ++ b ∷ []) xs) ≤ length xs + some (got ++ b ∷ []) → (f : Bool)
        → (length got == 572) ≡ f
        → length (cond f (record { bytes = got; end = false } ∷ pieces (b ∷ []) xs) (pieces (got ++ b ∷ []) xs))
        ≤ length (Byte b ∷ xs) + some got
    go one more true is = omega (arith, one, some_full got (eqb-true (length got) 572 is))
    go one more false is = omega (arith, more, some_most (got ++ b ∷ []))

numbered_as_many : (e : EndState) (first : ℕ) (ps : List Piece) → length (numbered wire e first ps) ≡ length ps
numbered_as_many e first [] = refl
numbered_as_many e first (p ∷ ps) = omega (arith, numbered_as_many e (first + length (items_of p)) ps)

cut_few : (e : EndState) (first : ℕ) (xs : List Item) → length (numbered wire e first (pieces [] xs)) ≤ length xs
cut_few e first xs = omega (arith, numbered_as_many e first (pieces [] xs), pieces_few xs [])

-- ---- what goes

going_few : (s : Sender) → length (going s) ≤ length s.waiting
going_few s = go s.resetting
  where
    go : (b : Bool) → length (cond b [] (take s.credit s.waiting)) ≤ length s.waiting
    go true = omega arith
    go false = omega (arith, length-take s.credit s.waiting)

sending_few : (e : EndState) → length (sending wire e).sent ≤ length e.sender.waiting
sending_few e =
    let first = e.sender.front + length e.sender.unacknowledged in
    omega (arith, cut_few e first (going e.sender), going_few e.sender)

-- the queues of a change: what was sent, what waits, and what goes now
pub record IsFew (e : EndState) (c : Change) : Type 0 where
  pub sent : length c.sent ≤ length e.sender.waiting
  pub waiting : length (c.after).sender.waiting ≤ length e.sender.waiting
  pub unacknowledged : length (c.after).sender.unacknowledged ≤ length e.sender.unacknowledged + length e.sender.waiting

hearing_few : (e : EndState) (window : ℕ) (acks : Option ℕ) → IsFew e (hearing wire e window acks)
hearing_few e window None = record { sent = omega arith; waiting = omega arith; unacknowledged = omega arith }
hearing_few e window (Some k) =
    let s : Sender = acknowledged wire k window e.sender in
    let goes = going_few s in
    record {
      sent = sending_few (record e { sender = s; ticks = 0 });
      waiting = omega (arith, length-drop (length (going s)) s.waiting);
      unacknowledged =
          omega (arith, length-append s.unacknowledged (going s), length-drop k e.sender.unacknowledged, goes);
    }

pub opened_few : (e : EndState) (window : ℕ) (acks : Option ℕ) → FitsRooms e
    → length (hearing wire e window acks).sent ≤ 65535
opened_few e window acks fits = omega (arith, (hearing_few e window acks).sent, fits.queued, fits.send_room)

-- ---- a segment that is heard

if_asked_few : (ack : Bool) (e : EndState) → length (if_asked wire ack e) ≤ 1
if_asked_few true e = omega arith
if_asked_few false e = omega arith

module _ (e : EndState) (fits : FitsRooms e) (c : Change) (few : IsFew e c) where
  total : length e.sender.unacknowledged + length e.sender.waiting ≤ 65535
  total = omega (arith, fits.queued, fits.send_room)

  reset_few : (f : Forward) → length (reset_came wire c f).sent ≤ 131070
  reset_few (Jump d) =
      let answer : List Content = control wire (jumped wire c.after d) false ResetAck ∷ [] in
      omega (arith, length-append c.sent answer, few.sent, total)
  reset_few Older = omega (arith, length-append c.sent (control wire c.after false ResetAck ∷ []), few.sent, total)
  reset_few Beyond = omega (arith, length-append {A = Content} c.sent [], few.sent, total)

  answer_few : (b : Bool) → length (answer_came wire c b).sent ≤ 131070
  answer_few false = omega (arith, length-append {A = Content} c.sent [], few.sent, total)
  answer_few true =
      let d : Change = sending wire (record c.after { sender = record c.after.sender { resetting = false } }) in
      let now : EndState = record c.after { sender = record c.after.sender { resetting = false } } in
      let more : length d.sent ≤ length (c.after).sender.waiting = sending_few now in
      let both = length-append c.sent d.sent in
      omega (arith, length-append (c.sent ++ d.sent) [], both, few.sent, few.waiting, more, total)

  after_few : (ack : Bool) (s : Saying) → length (after_hearing wire c ack s).sent ≤ 131070
  after_few ack (Brings items) =
      let answer = if_asked wire ack (taking wire c.after items) in
      let one = if_asked_few ack (taking wire c.after items) in
      omega (arith, length-append c.sent answer, one, few.sent, total)
  after_few ack Asks =
      let one = if_asked_few ack c.after in
      omega (arith, length-append c.sent (if_asked wire ack c.after), one, few.sent, total)
  after_few ack Closes = omega (arith, few.sent, total)
  after_few ack (Resets f) = reset_few f
  after_few ack (Answers b) = answer_few b
  after_few ack Advises =
      let again = cut_few c.after (c.after).sender.front (c.after).sender.unacknowledged in
      omega (arith, length-append c.sent (repeated wire c.after), again, few.sent, few.unacknowledged, total)

pub heard_few : (e : EndState) (t : Told) → FitsRooms e → length (heard wire e t).sent ≤ 131070
heard_few e t fits = after_few e fits (hearing wire e t.window t.acks) (hearing_few e t.window t.acks) t.ack t.saying

-- ---- calls and timers

pub write_few : (e : EndState) (items : List Item) → FitsRooms e → length (writing wire e items).sent ≤ 65535
write_few e items fits =
    let more = take (places e) items in
    let goes = sending_few (record e { sender = record e.sender { waiting = e.sender.waiting ++ more } }) in
    let joined = length-append e.sender.waiting more in
    omega (arith, goes, joined, length-take (places e) items, fits.queued, fits.send_room)

pub tick_few : (e : EndState) (x : Tick) → FitsRooms e → length (ticked wire e x).sent ≤ 65535
tick_few e tick.Retransmit fits = again e.phase
  where
    open_few : (b : Bool) → length (cond b (control wire e false Reset ∷ []) (repeated wire e)) ≤ 65535
    open_few true = omega arith
    open_few false = omega (arith, cut_few e e.sender.front e.sender.unacknowledged, fits.queued, fits.send_room)

    again : (p : Phase) → length (sent_again wire e p) ≤ 65535
    again phase.Opening = omega arith
    again phase.Half = omega arith
    again phase.Open = open_few e.sender.resetting
    again phase.Closed = omega arith
tick_few e tick.Probe fits = go (is_last e tick.Probe)
  where
    asks : (p : Phase) → length (probes wire e p) ≤ 65535
    asks phase.Opening = omega arith
    asks phase.Half = omega arith
    asks phase.Open = omega arith
    asks phase.Closed = omega arith

    go : (b : Bool) → length (probed wire e b).sent ≤ 65535
    go true = omega arith
    go false = asks e.phase

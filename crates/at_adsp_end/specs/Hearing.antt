-- What a segment tells an open end, and what it does there (Inside AppleTalk, ADSP, "Data flow", "Forward resets").
use Rattle.std.specs.Prelude.{ℕ, ◌+◌, ◌==◌, ◌&&◌, nat_le, if◌then◌else◌, Bool, true, false, List, [], ◌∷◌}
use Rattle.std.specs.Prelude.{◌++◌, length, take, drop, Option, Some, None}
use Rattle.at_adsp_frame.specs.Segments.{Content, Part, Data, Probe, Open, Close, Reset, ResetAck, Advice}
use Rattle.at_adsp_end.specs.Positions.{Numbers}
use Rattle.at_adsp_end.specs.Ends.{EndState, Change, next_unsent, free, control, acknowledging}
use Rattle.at_adsp_end.specs.Cuts.{items_in}
use Rattle.at_adsp_end.specs.Sending.{acks, hearing, sending, repeated, shut}
pub use Rattle.at_adsp_end.specs.declared.forward.Forward.{Forward}
pub use Rattle.at_adsp_end.specs.declared.forward.Forward.TheVariants.{Jump, Older, Beyond}
use Rattle.at_adsp_end.specs.declared.item.Item.{Item}
use Rattle.at_adsp_end.specs.declared.change.EndChange.{EndChange}
use Rattle.at_adsp_end.specs.declared.change.EndChange.TheVariants.{Again, Heard, Dropped, Closed}

-- what a segment says, with every number that it carries compared to those of the end
pub data Saying : Type 0 where
  -- these items are next
  Brings : (items : List Item) → Saying
  -- the other end is there
  Asks : Saying
  -- it is closed
  Closes : Saying
  -- it dropped what it had not sent
  Resets : (forward : Forward) → Saying
  -- it answered a forward reset, perhaps the one of this end
  Answers : (matches : Bool) → Saying
  -- it wants again what it does not acknowledge
  Advises : Saying

-- how many items a segment acknowledges, how many more its sender has room for, whether it wants to hear, and what it
-- says
pub record Told : Type 0 where
  pub acks : Option ℕ
  pub window : ℕ
  pub ack : Bool
  pub saying : Saying

-- ---- what a segment tells

-- the items of a segment that are not received yet: none if it begins past what is expected
abbrev pub rest : List Item → Option ℕ → List Item
rest items None = []
rest items (Some d) = drop d items

abbrev pub passed : Option ℕ → Forward
passed None = Beyond
passed (Some d) = Older

abbrev pub fitting : ℕ → Option ℕ → Option ℕ → Forward
fitting room None behind = passed behind
fitting room (Some d) behind = if nat_le d room then Jump d else passed behind

-- a forward reset at this number
abbrev pub forward : Numbers → EndState → ℕ → Forward
forward N e first = fitting (free e) (N.ahead e.receiver.received first) (N.ahead first e.receiver.received)

-- a segment with this first and this next number; an opening says no more than that
abbrev pub saying : Numbers → EndState → ℕ → ℕ → Part → Saying
saying N e first next (Data end bytes) = Brings (rest (items_in end bytes) (N.ahead first e.receiver.received))
saying N e first next Probe = Asks
saying N e first next (Open kind dest) = Answers false
saying N e first next Close = Closes
saying N e first next Reset = Resets (forward N e first)
saying N e first next ResetAck = Answers (e.sender.resetting && (next == next_unsent N e.sender))
saying N e first next Advice = Advises

abbrev pub told : Numbers → EndState → Content → Told
told N e s = record {
  acks = acks N e.sender s.next;
  window = s.window;
  ack = s.ack;
  saying = saying N e s.first s.next s.body;
}

-- ---- what it does

-- what comes of a segment at an open end: the step, the end after it, and what it sends
pub record Outcome : Type 0 where
  pub step : EndChange
  pub after : EndState
  pub sent : List Content

-- the items for which there is room
abbrev pub taken : EndState → List Item → List Item
taken e items = take (free e) items

abbrev pub taking : Numbers → EndState → List Item → EndState
taking N e items = record e {
  receiver =
      record {
        received = N.at (e.receiver.received + length (taken e items));
        unread = e.receiver.unread ++ taken e items;
      };
}

-- what was not read is dropped, and what is expected lies so far ahead
abbrev pub jumped : Numbers → EndState → ℕ → EndState
jumped N e d = record e { receiver = record { received = N.at (e.receiver.received + d); unread = [] } }

-- an acknowledgement, if one is wanted
abbrev pub if_asked : Numbers → Bool → EndState → List Content
if_asked N ack e = if ack then acknowledging N e ∷ [] else []

abbrev pub heard_only : Change → List Content → Outcome
heard_only c more = record { step = Heard c.after.id 0; after = c.after; sent = c.sent ++ more }

abbrev pub items_came : Numbers → Change → Bool → List Item → Outcome
items_came N c ack items = record {
  step = Heard c.after.id (length (taken c.after items));
  after = taking N c.after items;
  sent = c.sent ++ if_asked N ack (taking N c.after items);
}

abbrev pub close_came : Numbers → Change → Outcome
close_came N c = record { step = Closed c.after.id; after = shut N c.after; sent = c.sent }

-- a forward reset is answered, but not one for which there is no room
abbrev pub reset_came : Numbers → Change → Forward → Outcome
reset_came N c (Jump d) = record {
  step = Dropped c.after.id;
  after = jumped N c.after d;
  sent = c.sent ++ control N (jumped N c.after d) false ResetAck ∷ [];
}
reset_came N c Older = heard_only c (control N c.after false ResetAck ∷ [])
reset_came N c Beyond = heard_only c []

-- the reset of this end is answered: what was written since goes now
abbrev pub answered_on : Change → Change → Outcome
answered_on c d = heard_only (record { after = d.after; sent = c.sent ++ d.sent }) []

abbrev pub answer_came : Numbers → Change → Bool → Outcome
answer_came N c false = heard_only c []
answer_came N c true =
    answered_on c (sending N (record c.after { sender = record c.after.sender { resetting = false } }))

abbrev pub is_empty : {X : Type 0} → List X → Bool
is_empty [] = true
is_empty (x ∷ xs) = false

-- what is not acknowledged goes again, if it is anything
abbrev pub advice_came : Numbers → Change → Outcome
advice_came N c = record {
  step = if is_empty c.after.sender.unacknowledged then Heard c.after.id 0 else Again;
  after = c.after;
  sent = c.sent ++ repeated N c.after;
}

abbrev pub after_hearing : Numbers → Change → Bool → Saying → Outcome
after_hearing N c ack (Brings items) = items_came N c ack items
after_hearing N c ack Asks = heard_only c (if_asked N ack c.after)
after_hearing N c ack Closes = close_came N c
after_hearing N c ack (Resets forward) = reset_came N c forward
after_hearing N c ack (Answers matches) = answer_came N c matches
after_hearing N c ack Advises = advice_came N c

-- an open end hears a segment that tells this
abbrev pub heard : Numbers → EndState → Told → Outcome
heard N e t = after_hearing N (hearing N e t.window t.acks) t.ack t.saying

-- What an end sends, and what acknowledgements do (Inside AppleTalk, ADSP, "Sequence numbers" and "Flow control").
use Rattle.std.specs.Prelude.{ℕ, ◌+◌, ◌-◌, nat_le, max, if◌then◌else◌, true, false, List, [], ◌∷◌, ◌++◌, length}
use Rattle.std.specs.Prelude.{take, drop, Option, Some, None}
use Rattle.at_adsp_frame.specs.Segments.{Content, Reset, Close}
use Rattle.at_adsp_end.specs.Positions.{Numbers}
use Rattle.at_adsp_end.specs.Ends.{Sender, EndState, Change, next_unsent, control}
use Rattle.at_adsp_end.specs.Cuts.{pieces, numbered}
use Rattle.at_adsp_end.specs.declared.item.Item.{Item}
use Rattle.at_adsp_end.specs.declared.phase.Phase.TheVariants as phase

-- ---- what is sent

-- the items that go now: all that wait below the limit, but none while a forward reset is unanswered
abbrev pub going : Sender → List Item
going s = if s.resetting then [] else take s.credit s.waiting

abbrev pub sent_on : Sender → Sender
sent_on s = record s {
  unacknowledged = s.unacknowledged ++ going s;
  waiting = drop (length (going s)) s.waiting;
  credit = s.credit - length (going s);
}

-- the end sends all that it may
abbrev pub sending : Numbers → EndState → Change
sending N e = record {
  after = record e { sender = sent_on e.sender };
  sent = numbered N e (e.sender.front + length e.sender.unacknowledged) (pieces [] (going e.sender));
}

-- all that was sent and is not acknowledged, cut anew
abbrev pub repeated : Numbers → EndState → List Content
repeated N e = numbered N e e.sender.front (pieces [] e.sender.unacknowledged)

-- ---- what is acknowledged

abbrev pub at_most : ℕ → Option ℕ → Option ℕ
at_most n None = None
at_most n (Some k) = if nat_le k n then Some k else None

-- how many items the next expected number acknowledges; none if it lies before the front or past what was sent
abbrev pub acks : Numbers → Sender → ℕ → Option ℕ
acks N s next = at_most (length s.unacknowledged) (N.ahead s.front next)

-- so many items are acknowledged, and the limit is so far behind them, if that is later
abbrev pub acknowledged : Numbers → ℕ → ℕ → Sender → Sender
acknowledged N k window s = record s {
  front = N.at (s.front + k);
  unacknowledged = drop k s.unacknowledged;
  credit = max s.credit (window - (length s.unacknowledged - k));
}

-- Every segment that is heard says that the other end is there. An acknowledgement lets more be sent.
abbrev pub hearing : Numbers → EndState → ℕ → Option ℕ → Change
hearing N e window None = record { after = record e { ticks = 0 }; sent = [] }
hearing N e window (Some k) =
    sending N (record e { sender = acknowledged N k window e.sender; ticks = 0 })

-- ---- what is dropped

-- nothing is queued any more; the next item gets the number that it would have got
abbrev pub dropped : Numbers → Sender → Sender
dropped N s = record s { front = next_unsent N s; unacknowledged = []; waiting = [] }

-- the forward reset of an end says that what came before is given up
abbrev pub resetting_now : Numbers → EndState → Change
resetting_now N e = record {
  after = record e { sender = record (dropped N e.sender) { resetting = true } };
  sent = control N e false Reset ∷ [];
}

-- a closed end sends nothing any more
abbrev pub shut : Numbers → EndState → EndState
shut N e = record e {
  phase = phase.Closed;
  sender = record (dropped N e.sender) { resetting = false };
}

-- an end is closed here, and tells the other end
abbrev pub closing : Numbers → EndState → Change
closing N e = record { after = shut N e; sent = control N e false Close ∷ [] }

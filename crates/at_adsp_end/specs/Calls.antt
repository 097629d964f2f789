-- What the calls and the timers of an end do to it (Inside AppleTalk, ADSP, "Retransmission", "Closing a connection").
use Rattle.std.specs.Prelude.{ℕ, ◌+◌, ◌==◌, ◌&&◌, not, nat_le, if◌then◌else◌, Bool, true, false, List, [], ◌∷◌}
use Rattle.std.specs.Prelude.{◌++◌, take, drop}
use Rattle.at_adsp_frame.specs.Segments.{Content, Reset}
use Rattle.at_adsp_end.specs.Positions.{Numbers}
use Rattle.at_adsp_end.specs.Ends.{EndState, Change, free, places, is_open, is_closed, control, asking}
use Rattle.at_adsp_end.specs.Ends.{answering, probing, acknowledging}
use Rattle.at_adsp_end.specs.Sending.{sending, repeated, shut}
use Rattle.at_adsp_end.specs.Hearing.{Outcome, is_empty}
use Rattle.at_adsp_end.specs.declared.item.Item.{Item}
use Rattle.at_adsp_end.specs.declared.phase.Phase.{Phase}
use Rattle.at_adsp_end.specs.declared.phase.Phase.TheVariants as phase
use Rattle.at_adsp_end.specs.declared.change.EndChange.TheVariants.{Again, Idle, Closed}
use Rattle.at_adsp_end.specs.declared.tick.Tick.{Tick}
use Rattle.at_adsp_end.specs.declared.tick.Tick.TheVariants.{Retransmit, Probe}

-- ---- timers

-- what goes again from an open end: its forward reset if that is unanswered, or else what is not acknowledged
abbrev pub open_again : Numbers → EndState → List Content
open_again N e = if e.sender.resetting then control N e false Reset ∷ [] else repeated N e

-- what goes again, by the phase: a closed end has no timers
abbrev pub sent_again : Numbers → EndState → Phase → List Content
sent_again N e phase.Opening = asking e ∷ []
sent_again N e phase.Half = answering N e ∷ []
sent_again N e phase.Open = open_again N e
sent_again N e phase.Closed = []

-- an open end to whose other end nothing is to go again
abbrev pub is_idle : EndState → Bool
is_idle e = is_open e.phase && not e.sender.resetting && is_empty e.sender.unacknowledged

-- what asks whether the other end is there
abbrev pub probes : Numbers → EndState → Phase → List Content
probes N e phase.Opening = asking e ∷ []
probes N e phase.Half = answering N e ∷ []
probes N e phase.Open = probing N e ∷ []
probes N e phase.Closed = []

-- the fourth probe tick without a word from the other end
abbrev pub is_last : EndState → Tick → Bool
is_last e Probe = nat_le 4 (e.ticks + 1)
is_last e Retransmit = false

abbrev pub probed : Numbers → EndState → Bool → Outcome
probed N e true = record { step = Closed e.id; after = shut N (record e { ticks = 4 }); sent = [] }
probed N e false = record { step = Again; after = record e { ticks = e.ticks + 1 }; sent = probes N e e.phase }

-- a timer of an end that stays
abbrev pub ticked : Numbers → EndState → Tick → Outcome
ticked N e Retransmit = record {
  step = if is_idle e then Idle else Again;
  after = e;
  sent = sent_again N e e.phase;
}
ticked N e Probe = probed N e (is_last e Probe)

-- Does a tick do anything at an end? At a closed one it does not, and from an idle one nothing goes again.
abbrev pub heeds : EndState → Tick → Bool
heeds e Retransmit = not (is_closed e.phase) && not (is_idle e)
heeds e Probe = not (is_closed e.phase)

-- ---- reading and writing

-- so many items are read, or all that there are
abbrev pub after_read : EndState → ℕ → EndState
after_read e count = record e { receiver = record e.receiver { unread = drop count e.receiver.unread } }

-- an open end that could take nothing, and now can, says so
abbrev pub read_opens : EndState → ℕ → Bool
read_opens e count = is_open e.phase && (free e == 0) && not (free (after_read e count) == 0)

abbrev pub reading : Numbers → EndState → ℕ → Change
reading N e count = record {
  after = after_read e count;
  sent = if read_opens e count then acknowledging N (after_read e count) ∷ [] else [];
}

-- the items for which there is room are written, and sent as far as they may be
abbrev pub writing : Numbers → EndState → List Item → Change
writing N e items =
    sending N (record e { sender = record e.sender { waiting = e.sender.waiting ++ take (places e) items } })

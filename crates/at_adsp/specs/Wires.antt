-- Ends and segments whose numbers may be of any size, as the cable has them (Inside AppleTalk, ADSP, "Sequence
-- numbers").
use Rattle.std.specs.Prelude.{ℕ, ◌%◌, ◌^◌, map}
use Rattle.at_adsp_frame.specs.Segments.{Content}
use Rattle.at_adsp_end.specs.Ends.{EndState}
use Rattle.at_adsp_end.specs.Hearing.{Outcome}

-- a number has four bytes there
abbrev pub wired_number : ℕ → ℕ
wired_number n = n % 2 ^ 32

abbrev pub wired : EndState → EndState
wired e = record e {
  sender = record e.sender { front = wired_number e.sender.front };
  receiver = record e.receiver { received = wired_number e.receiver.received };
}

abbrev pub wired_segment : Content → Content
wired_segment s = record s { first = wired_number s.first; next = wired_number s.next }

-- what came of it, and the end and what is sent as the cable has them
abbrev pub wired_outcome : Outcome → Outcome
wired_outcome o = record { step = o.step; after = wired o.after; sent = map wired_segment o.sent }

-- When datagrams are sent.
use Rattle.std.specs.Prelude.{ℕ, ◌+◌, ◌-◌, ◌^◌, ◌==◌, if◌then◌else◌, min, Option, Some, None}
use Rattle.at_recording.specs.declared.moment.Moment.{Moment}

-- the place behind another, up to the largest number of 32 bits
abbrev pub place_after : ℕ → ℕ
place_after place = min (place + 1) (2 ^ 32 - 1)

-- the first datagram of an event has place 0, and each of its others the place behind the last one
abbrev pub place_in : Option Moment → ℕ → ℕ
place_in None event = 0
place_in (Some m) event = if event == m.event then place_after m.place else 0

-- the moment of the datagram that an event sends next
abbrev pub moment_after : Option Moment → ℕ → Moment
moment_after last event = record { event = event; place = place_in last event }

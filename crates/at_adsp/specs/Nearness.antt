-- Histories in which no segment is far behind the end that sent it (Inside AppleTalk, ADSP, "Sequence numbers"). On the
-- cable numbers come round, so how far an end goes on is counted event by event.
use Rattle.std.specs.Prelude.{◌≡◌, ℕ, ◌+◌, ◌<◌, ◌^◌, nat_le, if◌then◌else◌, true, List, [], ◌∷◌, Option, Some}
use Rattle.std.specs.Prelude.{None}
use Rattle.at_ddp.specs.Posts.{packet_at}
use Rattle.at_ddp.specs.declared.address.Address.{Address}
use Rattle.at_adsp_end.specs.Ends.{EndState, next_unsent}
use Rattle.at_adsp_end.specs.Positions.{Numbers}
use Rattle.at_adsp.specs.Network.{Setting, Made, Sent, Happening, Takes, after, newest}

-- windows have two bytes
abbrev pub HasWindows : Setting → Type 0
HasWindows setting = (at : Address) → (setting.rooms at).receive < 2 ^ 16

-- the two numbers by which an end goes on: that of the next item to be sent, and that of the next that is expected
abbrev pub unsent : Numbers → EndState → ℕ
unsent N e = next_unsent N e.sender

abbrev pub expected : Numbers → EndState → ℕ
expected N e = e.receiver.received

-- how far a number of an end went on
abbrev pub went_on : Numbers → (Numbers → EndState → ℕ) → Option Made → Option Made → ℕ
went_on N number None now = 0
went_on N number (Some old) None = 0
went_on N number (Some old) (Some now) = N.far (number N old.last) (number N now.last)

-- how far this number of the newest end with an identifier went on since an event was over
abbrev pub gone_since : Setting → (Numbers → EndState → ℕ) → Address → ℕ → ℕ → List Happening → ℕ
gone_since setting number at id event [] = 0
gone_since setting number at id event (h ∷ hs) =
    if nat_le (after setting hs).event event then 0
    else
    gone_since setting number at id event hs
    + went_on setting.numbers number (newest (after setting hs).made at id) (newest (after setting (h ∷ hs)).made at id)

-- since a segment was sent
abbrev pub gone : Setting → (Numbers → EndState → ℕ) → List Happening → Sent → ℕ
gone setting number history s = gone_since setting number s.from s.packet.source s.event history

-- Since a segment was sent, its end gave fewer than 2^31 items numbers, and received or passed fewer than 2^31.
pub record IsNear (setting : Setting) (history : List Happening) (s : Sent) : Type 0 where
  pub sent : gone setting unsent history s < 2 ^ 31
  pub received : gone setting expected history s < 2 ^ 31

-- Each segment that comes is near the end that sent it, if that is for one of our addresses.
abbrev pub ComesNear : Setting → List Happening → Happening → Type 0
ComesNear setting history (Takes datagram) =
    (s : Sent) → packet_at (after setting history).sent datagram ≡ Some s
    → (m : Made) → newest (after setting history).made s.from s.packet.source ≡ Some m
    → setting.ours m.stream.asked ≡ true → IsNear setting history s
ComesNear setting history other = Unit {0}

abbrev pub AllNear : Setting → List Happening → Type 0
AllNear setting [] = Unit {0}
AllNear setting (h ∷ hs) = ComesNear setting hs h × AllNear setting hs

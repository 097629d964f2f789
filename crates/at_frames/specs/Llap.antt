-- Frames of LLAP (Inside AppleTalk, LocalTalk Link Access Protocol, "LLAP packets").
use Rattle.std.specs.Prelude.{ℕ, ◌==◌, ◌||◌, Bool, if◌then◌else◌, nat_lt, List, length, drop, slice_index, Result, Ok}
use Rattle.std.specs.Prelude.{Err}
use Rattle.at_frames.specs.Carried.{Load}
use Rattle.at_frames.specs.declared.carried.Carrier.{Carrier}
use Rattle.at_frames.specs.declared.carried.Header.{Header}
use Rattle.at_frames.specs.declared.carried.Header.TheVariants.{Long, Short}
use Rattle.at_frames.specs.declared.carried.Reason.{Reason}
use Rattle.at_frames.specs.declared.carried.Reason.TheVariants.{Control, Cut, Foreign}
use Rattle.at_frames.specs.declared.carried.Station.TheVariants.{Node}

-- the datagram behind a header: the destination, the source and the type
abbrev pub behind : Carrier → Header → List ℕ → Load
behind carrier header llap = record {
  carrier = carrier;
  stations = record { to = Node (slice_index llap 0); from = Node (slice_index llap 1) };
  header = header;
  bytes = drop 3 llap;
}

-- 81, 82, 84 and 85: enquiry, acknowledgement, request and clearance to send
abbrev pub is_control : ℕ → Bool
is_control kind = (kind == 129) || (kind == 130) || (kind == 132) || (kind == 133)

-- what a frame of LLAP tells: type 1 has a short datagram, type 2 a long one
unfoldable pub in_llap : Carrier → List ℕ → Result Load Reason
in_llap carrier llap =
    if nat_lt (length llap) 3 then Err Cut else
    (if slice_index llap 2 == 1 then Ok (behind carrier (Short (slice_index llap 0) (slice_index llap 1)) llap) else
    (if slice_index llap 2 == 2 then Ok (behind carrier Long llap) else
    (if is_control (slice_index llap 2) then Err Control else Err Foreign)))

-- Linux's cooked captures (tcpdump's LINKTYPE_LINUX_SLL and LINKTYPE_LINUX_SLL2).
use Rattle.std.specs.Prelude.{ℕ, ◌==◌, if◌then◌else◌, nat_lt, List, length, take, drop, slice_index, Result, Err}
use Rattle.at_ddp.specs.Fault.{number_at}
use Rattle.at_frames.specs.Carried.{Load}
use Rattle.at_frames.specs.Ethernet.{by_type}
use Rattle.at_frames.specs.Llc.{in_llc}
use Rattle.at_frames.specs.declared.carried.Reason.{Reason}
use Rattle.at_frames.specs.declared.carried.Reason.TheVariants.{Cut}
use Rattle.at_frames.specs.declared.carried.Station.{Station}
use Rattle.at_frames.specs.declared.carried.Station.TheVariants.{Ethernet as OfEthernet, Unknown}
use Rattle.at_frames.specs.declared.carried.Stations.{Stations}

-- the sender at a place of the header, if its address has 6 bytes
abbrev pub sender : ℕ → List ℕ → ℕ → Station
sender address_len frame place = if address_len == 6 then OfEthernet (take 6 (drop place frame)) else Unknown

-- the header has no destination
abbrev pub stations_from : Station → Stations
stations_from from = record { to = Unknown; from = from }

-- what is told behind a header with this type: behind 4 a frame of LLC follows, up to the end
unfoldable pub by_protocol : Station → ℕ → List ℕ → Result Load Reason
by_protocol from kind rest =
    if kind == 4 then in_llc (stations_from from) (length rest) rest else by_type (stations_from from) kind rest

-- 16 bytes: the address's length at 4, the sender at 6, the type at 14
unfoldable pub in_cooked : List ℕ → Result Load Reason
in_cooked frame =
    if nat_lt (length frame) 16 then Err Cut else
    by_protocol (sender (number_at 4 frame) frame 6) (number_at 14 frame) (drop 16 frame)

-- 20 bytes: the type at 0, the address's length at 11, the sender at 12
unfoldable pub in_cooked_2 : List ℕ → Result Load Reason
in_cooked_2 frame =
    if nat_lt (length frame) 20 then Err Cut else
    by_protocol (sender (slice_index frame 11) frame 12) (number_at 0 frame) (drop 20 frame)

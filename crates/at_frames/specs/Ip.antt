-- LocalTalk over UDP: frames of LLAP in UDP (RFC 768) in IPv4 (RFC 791).
use Rattle.std.specs.Prelude.{ℕ, ◌+◌, ◌-◌, ◌*◌, ◌/◌, ◌%◌, ◌==◌, ◌&&◌, not, min, Bool, if◌then◌else◌, nat_le, nat_lt}
use Rattle.std.specs.Prelude.{List, length, take, drop, slice_index, Result, Err}
use Rattle.at_ddp.specs.Fault.{number_at}
use Rattle.at_frames.specs.Carried.{Load}
use Rattle.at_frames.specs.Llap.{in_llap}
use Rattle.at_frames.specs.declared.carried.Carrier.TheVariants.{LocalTalkOverUdp}
use Rattle.at_frames.specs.declared.carried.Reason.{Reason}
use Rattle.at_frames.specs.declared.carried.Reason.TheVariants.{Cut, Foreign, OtherIp}

-- how many bytes the header has, by the low four bits of its first byte
abbrev pub header_len : List ℕ → ℕ
header_len ip = 4 * (slice_index ip 0 % 16)

-- version 4, and 20 bytes of header or more
abbrev pub is_ipv4 : List ℕ → Bool
is_ipv4 ip = (slice_index ip 0 / 16 == 4) && nat_le 20 (header_len ip)

-- protocol 17, with no more fragments and an offset of 0
abbrev pub is_whole_udp : List ℕ → Bool
is_whole_udp ip = (slice_index ip 9 == 17) && (number_at 6 ip % 16384 == 0)

-- a length of UDP counts its header, and is at most this
abbrev pub is_length : ℕ → ℕ → Bool
is_length len most = nat_le 8 len && nat_le len most

-- What UDP carries, which has at most so many of these bytes: port 1954, then the identifier of the sender in 4 bytes,
-- and LLAP up to the length.
unfoldable pub in_udp : ℕ → List ℕ → Result Load Reason
in_udp most udp =
    let len = number_at 4 udp in
    if not (number_at 2 udp == 1954) then Err OtherIp else
    (if not (is_length len most) then Err Foreign else
    (if nat_lt (length udp) 12 then Err Cut else
    (if nat_lt len 12 then Err Foreign else
    in_llap LocalTalkOverUdp (drop 12 (take (min len (length udp)) udp)))))

-- What IPv4 tells: UDP in one piece, for whose header there is room in the total length, and which was captured.
unfoldable pub in_ip : List ℕ → Result Load Reason
in_ip ip =
    if nat_lt (length ip) 20 then Err Cut else
    (if not (is_ipv4 ip) then Err Foreign else
    (if not (is_whole_udp ip) then Err OtherIp else
    (if nat_lt (number_at 2 ip) (header_len ip + 8) then Err Foreign else
    (if nat_lt (length ip) (header_len ip + 8) then Err Cut else
    in_udp (number_at 2 ip - header_len ip) (drop (header_len ip) ip)))))

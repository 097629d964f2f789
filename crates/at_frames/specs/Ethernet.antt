-- Frames of Ethernet (IEEE 802.3), with tags (IEEE 802.1Q).
use Rattle.std.specs.Prelude.{ℕ, ◌+◌, ◌*◌, ◌==◌, ◌&&◌, ◌||◌, Bool, if◌then◌else◌, nat_le, nat_lt, List, ◌∷◌, length}
use Rattle.std.specs.Prelude.{take}
use Rattle.std.specs.Prelude.{drop, Result, Err}
use Rattle.at_ddp.specs.Fault.{number_at}
use Rattle.at_frames.specs.Carried.{Load}
use Rattle.at_frames.specs.Ip.{in_ip}
use Rattle.at_frames.specs.Llap.{in_llap}
use Rattle.at_frames.specs.Llc.{in_llc}
use Rattle.at_frames.specs.declared.carried.Carrier.TheVariants.{EtherTalkPhase1}
use Rattle.at_frames.specs.declared.carried.Reason.{Reason}
use Rattle.at_frames.specs.declared.carried.Reason.TheVariants.{Aarp, Cut, Foreign}
use Rattle.at_frames.specs.declared.carried.Station.TheVariants.{Ethernet as OfEthernet}
use Rattle.at_frames.specs.declared.carried.Stations.{Stations}

-- 8100 and 88A8, the types of tags
abbrev pub is_tag : ℕ → Bool
is_tag kind = (kind == 33024) || (kind == 34984)

-- the bytes begin with a tag, which has 4 bytes
abbrev pub is_tagged : List ℕ → Bool
is_tagged bytes = nat_le 4 (length bytes) && is_tag (number_at 0 bytes)

-- what follows the tags
unfoldable pub after_tags : List ℕ → List ℕ
after_tags (a ∷ b ∷ c ∷ d ∷ rest) = if is_tag (256 * a + b) then after_tags rest else a ∷ b ∷ c ∷ d ∷ rest
after_tags bytes = bytes

-- What is told behind a type: up to 1500 it is the length of a frame of LLC, and 0800, 809B and 80F3 are IPv4, LLAP and
-- AARP.
unfoldable pub by_type : Stations → ℕ → List ℕ → Result Load Reason
by_type stations kind rest =
    if nat_le kind 1500 then in_llc stations kind rest else
    (if kind == 2048 then in_ip rest else
    (if kind == 32923 then in_llap EtherTalkPhase1 rest else
    (if kind == 33011 then Err Aarp else Err Foreign)))

-- what is told by bytes that begin with the type; behind the tags a tag is cut short
unfoldable pub typed : Stations → List ℕ → Result Load Reason
typed stations bytes =
    if nat_lt (length bytes) 2 then Err Cut else
    (if is_tag (number_at 0 bytes) then Err Cut else by_type stations (number_at 0 bytes) (drop 2 bytes))

-- what a frame tells: the destination, the source, tags, the type, and what follows
unfoldable pub in_ethernet : List ℕ → Result Load Reason
in_ethernet frame =
    if nat_lt (length frame) 14 then Err Cut else
    typed (record { to = OfEthernet (take 6 frame); from = OfEthernet (take 6 (drop 6 frame)) })
    (after_tags (drop 12 frame))

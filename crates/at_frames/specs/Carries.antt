-- Which bytes carry which datagram. Each layer's bytes are its header and what it carries, one behind the other, and
-- what follows the end that a length states belongs to no datagram.
use Rattle.std.specs.Prelude.{◌≡◌, ◌≢◌, ◌⊎◌, ℕ, ◌+◌, ◌/◌, ◌%◌, ◌≤◌, List, ◌∷◌, ◌++◌, length, take, drop}
use Rattle.std.specs.Prelude.{slice_index}
use Rattle.std.specs.List.{AllByRecursion, flat_map}
use Rattle.at_ddp.specs.Fault.{number_at}
use Rattle.at_frames.specs.Carried.{Load}
use Rattle.at_frames.specs.Cooked.{sender, stations_from}
use Rattle.at_frames.specs.Ip.{header_len}
use Rattle.at_frames.specs.Llc.{datagram_snap}
use Rattle.at_frames.specs.declared.carried.Carrier.{Carrier}
use Rattle.at_frames.specs.declared.carried.Carrier.TheVariants.{EtherTalk, EtherTalkPhase1, LocalTalk}
use Rattle.at_frames.specs.declared.carried.Carrier.TheVariants.{LocalTalkOverUdp}
use Rattle.at_frames.specs.declared.carried.Header.TheVariants.{Long, Short}
use Rattle.at_frames.specs.declared.carried.Station.{Station}
use Rattle.at_frames.specs.declared.carried.Station.TheVariants.{Ethernet as OfEthernet, Node}
use Rattle.at_frames.specs.declared.carried.Stations.{Stations}

-- LLAP: the destination, the source, the type (1: the short header, 2: the long one), and the datagram
pub record LlapCarries (carrier : Carrier) (llap : List ℕ) (d : Load) : Type 0 where
  pub to : ℕ
  pub from : ℕ
  pub carried : d.carrier ≡ carrier
  pub between : d.stations ≡ record { to = Node to; from = Node from }
  pub behind : ((d.header ≡ Short to from) × (llap ≡ to ∷ from ∷ 1 ∷ d.bytes))
      ⊎ ((d.header ≡ Long) × (llap ≡ to ∷ from ∷ 2 ∷ d.bytes))

-- LLC: the headers of LLC and SNAP and the datagram are the first of these bytes, as many as are stated
pub record LlcCarries (stations : Stations) (stated : ℕ) (rest : List ℕ) (d : Load) : Type 0 where
  pub carried : d.carrier ≡ EtherTalk
  pub between : d.stations ≡ stations
  pub long : d.header ≡ Long
  pub behind : take stated rest ≡ datagram_snap ++ d.bytes

-- IPv4 of version 4 with UDP in one piece, for port 1954: behind the headers the sender's identifier in 4 bytes, and
-- LLAP up to UDP's length, which is within the total length
pub record IpCarries (ip : List ℕ) (d : Load) : Type 0 where
  pub captured : header_len ip + 12 ≤ length ip
  pub version : slice_index ip 0 / 16 ≡ 4
  pub enough : 20 ≤ header_len ip
  pub protocol : slice_index ip 9 ≡ 17
  pub one_piece : number_at 6 ip % 16384 ≡ 0
  pub port : number_at 2 (drop (header_len ip) ip) ≡ 1954
  pub long : 12 ≤ number_at 4 (drop (header_len ip) ip)
  pub within : header_len ip + number_at 4 (drop (header_len ip) ip) ≤ number_at 2 ip
  pub llap : LlapCarries LocalTalkOverUdp
      (drop 12 (take (number_at 4 (drop (header_len ip) ip)) (drop (header_len ip) ip))) d

-- what is carried behind a type
abbrev pub TypeCarries : Stations → ℕ → List ℕ → Load → Type 0
TypeCarries stations kind rest d =
    ((kind ≤ 1500) × LlcCarries stations kind rest d) ⊎ ((kind ≡ 2048) × IpCarries rest d)
    ⊎ ((kind ≡ 32923) × LlapCarries EtherTalkPhase1 rest d)

-- a tag: 8100 or 88A8, and two bytes
pub record IsTag (tag : List ℕ) : Type 0 where
  pub len : length tag ≡ 4
  pub kind : (number_at 0 tag ≡ 33024) ⊎ (number_at 0 tag ≡ 34984)

-- Ethernet: the destination, the source, any number of tags, and then the type, and what is behind it
pub record EthernetCarries (frame : List ℕ) (d : Load) : Type 0 where
  pub to : List ℕ
  pub from : List ℕ
  pub tags : List (List ℕ)
  pub typed : List ℕ
  pub to_len : length to ≡ 6
  pub from_len : length from ≡ 6
  pub each : AllByRecursion IsTag tags
  pub parts : frame ≡ to ++ (from ++ (flat_map (λ tag. tag) tags ++ typed))
  pub has_type : 2 ≤ length typed
  pub behind : TypeCarries (record { to = OfEthernet to; from = OfEthernet from }) (number_at 0 typed) (drop 2 typed) d

-- a cooked header with this sender and type, and what is behind it: of type 4 a frame of LLC up to the end
abbrev pub CookedCarries : Station → ℕ → List ℕ → Load → Type 0
CookedCarries from kind rest d =
    ((kind ≡ 4) × LlcCarries (stations_from from) (length rest) rest d)
    ⊎ ((kind ≢ 4) × TypeCarries (stations_from from) kind rest d)

-- a frame of a cooked capture: 16 bytes, of which the address's length is at 4, the sender at 6, and the type at 14
pub record Cooked1Carries (frame : List ℕ) (d : Load) : Type 0 where
  pub captured : 16 ≤ length frame
  pub behind : CookedCarries (sender (number_at 4 frame) frame 6) (number_at 14 frame) (drop 16 frame) d

-- the same of the second version: 20 bytes, with the type at 0, the address's length at 11, and the sender at 12
pub record Cooked2Carries (frame : List ℕ) (d : Load) : Type 0 where
  pub captured : 20 ≤ length frame
  pub behind : CookedCarries (sender (slice_index frame 11) frame 12) (number_at 0 frame) (drop 20 frame) d

-- a frame of a link of this type carries this datagram
abbrev pub Carries : ℕ → List ℕ → Load → Type 0
Carries link_type frame d =
    ((link_type ≡ 1) × EthernetCarries frame d) ⊎ ((link_type ≡ 113) × Cooked1Carries frame d)
    ⊎ ((link_type ≡ 276) × Cooked2Carries frame d)
    ⊎ (((link_type ≡ 101) ⊎ (link_type ≡ 228)) × IpCarries frame d)
    ⊎ ((link_type ≡ 114) × LlapCarries LocalTalk frame d)

-- these bytes are some of those, as they are there
pub record LiesIn (bytes all : List ℕ) : Type 0 where
  pub before : List ℕ
  pub after : List ℕ
  pub parts : all ≡ before ++ (bytes ++ after)

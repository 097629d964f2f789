-- Frames of EtherTalk, as they are written.
use Rattle.std.specs.Prelude.{ℕ, ◌+◌, List, ◌++◌}
use Rattle.std.specs.Int.{to_be_bytes, w16}
use Rattle.at_frames.specs.Carried.{Load}
use Rattle.at_frames.specs.Llc.{datagram_snap}
use Rattle.at_frames.specs.declared.carried.Carrier.TheVariants.{EtherTalk}
use Rattle.at_frames.specs.declared.carried.Header.TheVariants.{Long}
use Rattle.at_frames.specs.declared.carried.Station.TheVariants.{Ethernet as OfEthernet}

-- the header before a datagram of this length: destination, source, the length of LLC, and LLC with SNAP
abbrev pub ethertalk_header : List ℕ → List ℕ → ℕ → List ℕ
ethertalk_header to from len = to ++ from ++ to_be_bytes w16 (8 + len) ++ datagram_snap

-- what such a frame carries
abbrev pub ethertalk_load : List ℕ → List ℕ → List ℕ → Load
ethertalk_load to from bytes = record {
  carrier = EtherTalk;
  stations = record { to = OfEthernet to; from = OfEthernet from };
  header = Long;
  bytes = bytes;
}

-- Datagrams with the short header (Inside AppleTalk, DDP, "Packet format").
use Rattle.std.specs.Prelude.{◌≡◌, ℕ, ◌+◌, ◌*◌, ◌<◌, ◌≤◌, List, [], ◌∷◌, ◌++◌, length}
use Rattle.std.specs.Int.{to_be_bytes, w16}
use Rattle.at_ddp.specs.Datagram.{AreBytes, Content}

-- a datagram of network 0 that has passed no router, without a checksum; its nodes are those of the link
abbrev pub short_content : ℕ → ℕ → ℕ → ℕ → ℕ → List ℕ → Content
short_content to from to_socket from_socket kind bytes = record {
  hops = 0;
  sum = 0;
  to = record { net = 0; node = to; socket = to_socket };
  from = record { net = 0; node = from; socket = from_socket };
  kind = kind;
  data_ = bytes;
}

-- the header: six bits that say nothing and ten of the length, which counts these 5 bytes; the sockets; the type
abbrev pub short_header : ℕ → ℕ → ℕ → ℕ → ℕ → List ℕ
short_header upper len to_socket from_socket kind =
    to_be_bytes w16 (upper * 1024 + (5 + len)) ++ to_socket ∷ from_socket ∷ kind ∷ []

-- between these nodes the input is a short datagram of d, and then rest
pub record BeginsWithShort (to from : ℕ) (input : List ℕ) (d : Content) (rest : List ℕ) : Type 0 where
  pub upper : ℕ
  pub to_socket : ℕ
  pub from_socket : ℕ
  pub kind : ℕ
  pub bytes : List ℕ
  pub is : d ≡ short_content to from to_socket from_socket kind bytes
  pub upper_fits : upper < 64
  pub to_fits : to_socket < 256
  pub from_fits : from_socket < 256
  pub kind_fits : kind < 256
  pub bytes_fit : AreBytes bytes
  pub few : length bytes ≤ 586
  pub parts : input ≡ short_header upper (length bytes) to_socket from_socket kind ++ (bytes ++ rest)

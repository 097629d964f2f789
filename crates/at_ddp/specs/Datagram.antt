-- Datagrams and their spellings (Inside AppleTalk, DDP, "Packet format": the extended header).
use Rattle.std.specs.Prelude.{◌≡◌, ℕ, ◌+◌, ◌*◌, ◌^◌, ◌<◌, ◌≤◌, List, [], ◌∷◌, ◌++◌, length, All, ◌⊎◌}
use Rattle.std.specs.Int.{to_be_bytes, w16}
use Rattle.at_ddp.specs.Sum.{sum_of}
use Rattle.at_ddp.specs.declared.address.Address.{Address}
use Rattle.at_ddp.specs.declared.datagram.Datagram.{Datagram}

-- the fields of a datagram, wherever its data lies in memory
pub record Content : Type 0 where
  pub hops : ℕ
  pub sum : ℕ
  pub to : Address
  pub from : Address
  pub kind : ℕ
  pub data_ : List ℕ

abbrev pub content : Datagram → Content
content d = record { hops = d.hops; sum = d.sum; to = d.to; from = d.from; kind = d.kind; data_ = d.data_.now }

-- each is a byte
abbrev pub AreBytes : List ℕ → Type 0
AreBytes bytes = All (λ b. b < 256) bytes

-- an address whose fields are in range
pub record IsAddress (a : Address) : Type 0 where
  pub net : a.net < 2 ^ 16
  pub node : a.node < 256
  pub socket : a.socket < 256

-- a datagram whose fields are in range
pub record IsLawful (d : Content) : Type 0 where
  pub hops : d.hops < 16
  pub sum : d.sum < 2 ^ 16
  pub to : IsAddress d.to
  pub from : IsAddress d.from
  pub kind : d.kind < 256
  pub bytes : AreBytes d.data_
  pub len : length d.data_ ≤ 586

-- what follows the checksum: the networks, the nodes, the sockets, the type and the data
abbrev pub after_sum : Content → List ℕ
after_sum d =
    to_be_bytes w16 d.to.net ++ to_be_bytes w16 d.from.net
    ++ (d.to.node ∷ d.from.node ∷ d.to.socket ∷ d.from.socket ∷ d.kind ∷ []) ++ d.data_

-- two free bits, four bits of hops and ten of the length, which counts the 13 bytes of the header; the checksum; the
-- rest
unfoldable pub spelling : ℕ → Content → List ℕ
spelling free d =
    to_be_bytes w16 (free * 2 ^ 14 + d.hops * 2 ^ 10 + (13 + length d.data_)) ++ to_be_bytes w16 d.sum ++ after_sum d

-- the bytes spell d, with any content of the two free bits
pub record Spells (bytes : List ℕ) (d : Content) : Type 0 where
  pub lawful : IsLawful d
  pub free : ℕ
  pub in_two_bits : free < 4
  pub fields : bytes ≡ spelling free d

-- the checksum is right, or none was computed
abbrev pub HasRightSum : Content → Type 0
HasRightSum d = (d.sum ≡ 0) ⊎ (d.sum ≡ sum_of (after_sum d))

-- the input is a spelling of d with a right checksum or none, and then rest
pub record BeginsWith (input : List ℕ) (d : Content) (rest : List ℕ) : Type 0 where
  pub bytes : List ℕ
  pub spelled : Spells bytes d
  pub summed : HasRightSum d
  pub follows : input ≡ bytes ++ rest

-- a datagram as it is sent: it has passed no router, and its checksum is computed
abbrev pub written : Address → Address → ℕ → List ℕ → Content
written to from kind bytes =
    let d : Content = record { hops = 0; sum = 0; to = to; from = from; kind = kind; data_ = bytes } in
    record d { sum = sum_of (after_sum d) }

-- the canonical spelling, with 0 in the free bits
abbrev pub canonical : Address → Address → ℕ → List ℕ → List ℕ
canonical to from kind bytes = spelling 0 (written to from kind bytes)

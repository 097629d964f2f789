-- What datagrams and frames ask and answer.
use Rattle.std.specs.Prelude.{◌≡◌, ◌⊎◌, ℕ, List}
use Rattle.at_atp_frame.specs.Frames.{Content as Packet, Spells}
use Rattle.at_capture.specs.Datagrams.{BeginsBy}
use Rattle.at_capture.specs.Frames.{Content}
use Rattle.at_capture.specs.Questions.{lookup_role, transaction_role}
use Rattle.at_capture.specs.declared.question.Role.{Role}
use Rattle.at_capture.specs.declared.question.Role.TheVariants.{Neither}
use Rattle.at_ddp.specs.Datagram.{Content as Datagram}
use Rattle.at_ddp.specs.Protocols.{atp_kind, nbp_kind}
use Rattle.at_ddp.specs.declared.address.Address.{Address}
use Rattle.at_frames.specs.Carried.{Load}
use Rattle.at_frames.specs.Carries.{Carries}
use Rattle.at_frames.specs.declared.carried.Header.{Header}
use Rattle.at_nbp.specs.Packets.{BeginsWith, Content as Names}

-- the data is a packet of ATP with this role, from one socket to another
pub record TransactionRole (from to : Address) (bytes : List ℕ) (r : Role) : Type 0 where
  pub packet : Packet
  pub spelled : Spells bytes packet
  pub is : r ≡ transaction_role from to packet

-- the data begins with a packet of NBP with this role, to this socket
pub record LookupRole (to : Address) (bytes : List ℕ) (r : Role) : Type 0 where
  pub packet : Names
  pub rest : List ℕ
  pub begins : BeginsWith bytes packet rest
  pub is : r ≡ lookup_role to packet

-- the datagram has this role, by the protocol that its header names
abbrev pub HasRole : Datagram → Role → Type 0
HasRole d r =
    ((d.kind ≡ atp_kind) × TransactionRole d.from d.to d.data_ r) ⊎ ((d.kind ≡ nbp_kind) × LookupRole d.to d.data_ r)

-- the bytes begin with such a datagram, by the header that its frame says
pub record BeginsRole (header : Header) (bytes : List ℕ) (r : Role) : Type 0 where
  pub datagram : Datagram
  pub rest : List ℕ
  pub begins : BeginsBy header bytes datagram rest
  pub has : HasRole datagram r

-- the frame carries such a datagram
pub record PlaysRole (f : Content) (r : Role) : Type 0 where
  pub load : Load
  pub carries : Carries f.link_type f.bytes load
  pub begins : BeginsRole load.header load.bytes r

-- this role is played and no other; or none is, and it is `Neither`
pub record IsRole (R : Role → Type 0) (r : Role) : Type 0 where
  pub played : (r ≡ Neither) ⊎ R r
  pub only : (other : Role) → R other → r ≡ other

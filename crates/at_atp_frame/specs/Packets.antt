-- A packet of an answer (Inside AppleTalk, ATP, "Packet format": the four user bytes belong to ATP's client).
use Rattle.std.specs.Prelude.{◌≡◌, ℕ, ◌≤◌, List, length}
use Rattle.at_ddp.specs.Datagram.{AreBytes}

pub record Packet : Type 0 where
  pub user : List ℕ
  pub data_ : List ℕ

-- four user bytes, and at most 578 bytes of data
pub record IsPacket (p : Packet) : Type 0 where
  pub four : length p.user ≡ 4
  pub user : AreBytes p.user
  pub bytes : AreBytes p.data_
  pub fits : length p.data_ ≤ 578

-- four user bytes, and data of bytes
pub record AreWords (p : Packet) : Type 0 where
  pub four : length p.user ≡ 4
  pub user : AreBytes p.user
  pub bytes : AreBytes p.data_

-- Finished datagrams in the order of sending, the socket that sends, and the room for more.
use Rattle.std.specs.Prelude.{ℕ, ◌≤◌, List}
use Rattle.at_ddp.specs.declared.address.Address.{Address}

-- a finished datagram, and the node that it goes to
pub record Posted : Type 0 where
  pub node : ℕ
  pub bytes : List ℕ

-- how many more datagrams, and how many more bytes of them, need no memory
pub record Room : Type 0 where
  pub places : ℕ
  pub bytes : ℕ

-- the datagrams that were sent, the socket that sends, its protocol, and the room for more
pub record Outbox : Type 0 where
  pub items : List Posted
  pub from : Address
  pub kind : ℕ
  pub room : Room

-- the next n datagrams, with so many bytes in all, need no memory
pub record HasRoom (room : Room) (n total : ℕ) : Type 0 where
  pub places : n ≤ room.places
  pub bytes : total ≤ room.bytes

-- The socket of a node in the network of names and lookups: each call and each packet there is one happening.
use Rattle.std.specs.Prelude.{◌≡◌, ℕ, Bool, true, false, List, ◌∷◌, ◌++◌, length, map, Some}
use Rattle.at_ddp.specs.Address.{same_address}
use Rattle.at_ddp.specs.Datagram.{IsAddress}
use Rattle.at_ddp.specs.declared.address.Address.{Address}
use Rattle.at_name_socket.specs.NameSockets.{SocketState, Takes}
use Rattle.at_name_socket.specs.Sockets.{Change, IsSocket, Opens, changed, open_at}
use Rattle.at_name_socket.specs.declared.step.Heard.{Heard}
use Rattle.at_nbp.specs.Askers.{IsAskedBy}
use Rattle.at_nbp.specs.Lawfully.{IsInRange}
use Rattle.at_nbp.specs.Lookups.{AreLookups}
use Rattle.at_ddp.specs.Posts.{packet_at, stamped}
use Rattle.at_nbp.specs.Network.{Begun, Happening, IsAnswered, IsTimely, Network, Sent, done, is_fresh}
use Rattle.at_nbp.specs.Packets.{Content, HasCount, spelling}
use Rattle.at_nbp.specs.declared.function.Function.TheVariants.{Reply}

-- the socket has the names and the lookups that the network has at its address
pub record Stands (n : Network) (at : Address) (s : SocketState) : Type 0 where
  pub table : n.tables at ≡ s.table
  pub lookups : n.lookups at ≡ s.lookups

-- so it is, and what it has is lawful
pub record StandsLawfully (n : Network) (at : Address) (s : SocketState) : Type 0 where
  pub stands : Stands n at s
  pub socket : IsSocket s
  pub lookups : AreLookups s.lookups
  pub own : s.table.own ≡ at
  pub fits : IsAddress at

-- the names and the lookups at all other addresses stay
abbrev pub OthersStay : Network → Network → Address → Type 0
OthersStay n m at =
    (a : Address) → same_address at a ≡ false → (m.tables a ≡ n.tables a) × (m.lookups a ≡ n.lookups a)

-- a packet as it is sent
abbrev pub spelled : Address × Content → Address × List ℕ
spelled sent = (sent.0, spelling sent.1)

-- the lookups that ever began, newest first, after a change in this event
abbrev pub begun_with : List Begun → ℕ → Address → Change → List Begun
begun_with begun event at (Opens id pattern claim) =
    record { event = event; who = at; id = id; pattern = pattern } ∷ begun
begun_with begun event at other = begun

-- a network becomes another in the same event: the socket at an address is now this one, it sends these packets, and
-- its open lookups change so
pub record Becomes (n m : Network) (at : Address) (old new : SocketState) (change : Change)
    (pushes : List (Address × List ℕ)) : Type 0 where
  pub stands : Stands m at new
  pub others : OthersStay n m at
  pub same_event : m.event ≡ n.event
  pub begun : m.begun ≡ begun_with n.begun n.event at change
  pub packets : List (Address × Content)
  pub sent : m.sent ≡ n.sent ++ stamped n.event at packets
  pub are : pushes ≡ map spelled packets
  pub opened : (id : ℕ) → open_at new id ≡ changed change (open_at old) id
  pub socket : IsSocket new
  pub own : new.table.own ≡ old.table.own

-- The step of a socket is this happening of the network, which is timely and in range there. If a lookup is asked by
-- it, then at this address.
pub record IsHappening (n : Network) (at : Address) (old new : SocketState) (change : Change)
    (pushes : List (Address × List ℕ)) (h : Happening) : Type 0 where
  pub becomes : Becomes n (done n h) at old new change pushes
  pub timely : IsTimely n h
  pub answered : IsAnswered n h
  pub in_range : IsInRange h
  pub asks : (these : Address → Bool) → these at ≡ true → IsAskedBy these h

-- some happening is the step
pub record Happens (n : Network) (at : Address) (old new : SocketState) (change : Change)
    (pushes : List (Address × List ℕ)) : Type 0 where
  pub happening : Happening
  pub is : IsHappening n at old new change pushes happening

-- a packet of the network comes to the socket that it was sent to, in time, and this is what it does there
pub record Comes (n : Network) (at : Address) (s : SocketState) (datagram : ℕ) (h : Heard) (new : SocketState)
    (pushes : List (Address × List ℕ)) : Type 0 where
  pub sent : Sent
  pub is : packet_at n.sent datagram ≡ Some sent
  pub counted : HasCount sent.packet.function (length sent.packet.tuples)
  pub here : sent.packet.function ≡ Reply → sent.to ≡ at
  pub fresh : sent.packet.function ≡ Reply → is_fresh n.begun sent ≡ true
  pub takes : Takes s sent.packet sent.packet.function h new pushes

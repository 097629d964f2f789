-- Where a node stands on its cable.
use Rattle.std.specs.Prelude.{ℕ, ◌==◌, ◌&&◌, ◌||◌, Bool}
use Rattle.at_ddp.specs.declared.address.Address.{Address}
use Rattle.at_ddp.specs.Protocols.{nbp_kind}
use Rattle.at_event.specs.declared.seat.Seat.{Seat}

-- an address on the node's own network
abbrev pub at_socket : Seat → ℕ → ℕ → Address
at_socket s node socket = record { net = s.net; node = node; socket = socket }

-- a datagram to this address is for the node: it is on the node's network, or on network 0
abbrev pub is_mine : Seat → Address → Bool
is_mine s to = ((to.net == s.net) || (to.net == 0)) && (to.node == s.number)

-- so is a datagram of NBP to every node
abbrev pub is_for_all : Seat → ℕ → Address → Bool
is_for_all s kind to = (kind == nbp_kind) && (((to.net == s.net) || (to.net == 0)) && (to.node == 255))

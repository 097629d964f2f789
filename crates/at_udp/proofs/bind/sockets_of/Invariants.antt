use Rattle.std.proofs.Common.{◌+◌, ◌-◌, ◌≤◌, length, take}
use Rattle.std.specs.List.{AllZip}
use Rattle.std.specs.Prelude.{vec_len, vec_capacity}
use Rattle.at_udp.specs.Binds.{Has}
use Rattle.at_udp.proofs.bind.sockets_of.Given as goal

-- the sockets so far are bound, and there is room for the others
abbrev pub invariant-loop-node : goal.invariant-loop-node
invariant-loop-node g l = record {
  bound : AllZip (Has g.S.Socket.binds l.first) (take l.node-index l.nodes) l.sockets.items;
  room : vec_len l.sockets + (length l.nodes - l.node-index) ≤ vec_capacity l.sockets;
}

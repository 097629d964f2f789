use Rattle.std.proofs.Common.{◌≡◌, ◌++◌, length, take}
use Rattle.std.specs.Prelude.{map}
use Rattle.at_cable.specs.Memory.{copies}
use Rattle.at_cable.specs.Waits.{posted}
use Rattle.at_cable.proofs.waiting.push_each.Given as goal

-- behind what waited before, the datagram waits for each node so far that it reaches
abbrev pub invariant-loop-node : goal.invariant-loop-node
invariant-loop-node g l = record {
  grown : map posted l.waiting.items
      ≡ map posted l.initial.waiting.items ++ copies l.to l.bytes (take l.node-index l.nodes);
  kept : take (length l.initial.waiting.items) l.waiting.items ≡ l.initial.waiting.items;
}

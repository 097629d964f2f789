use Rattle.std.proofs.Common.{◌≡◌, map, take}
use Rattle.at_drive.specs.Steps.{number_in}
use Rattle.at_udp_text.proofs.driving.numbers_of.Given as goal

abbrev pub invariant-loop-node : goal.invariant-loop-node
invariant-loop-node g l = l.numbers.items ≡ map number_in (take l.node-index l.setup.nodes)

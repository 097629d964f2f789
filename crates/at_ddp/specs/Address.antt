-- When two addresses are equal.
use Rattle.std.specs.Prelude.{◌==◌, ◌&&◌, Bool}
use Rattle.at_ddp.specs.declared.address.Address.{Address}

abbrev pub same_address : Address → Address → Bool
same_address a b = (a.net == b.net) && (a.node == b.node) && (a.socket == b.socket)

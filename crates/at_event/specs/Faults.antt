-- The numbers by which a node's own refusals are reported.
use Rattle.std.specs.Prelude.{ℕ}
use Rattle.at_event.specs.declared.fault.NodeFault.{NodeFault}
use Rattle.at_event.specs.declared.fault.NodeFault.TheVariants.{NoRouter, NotFound, StillReading, ZoneNotListed}

abbrev pub number_of : NodeFault → ℕ
number_of NoRouter = 60
number_of ZoneNotListed = 61
number_of NotFound = 62
number_of StillReading = 63

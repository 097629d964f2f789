-- The numbers by which the refusals of a world are reported.
use Rattle.std.specs.Prelude.{ℕ}
use Rattle.at_setup.specs.declared.refusal.Refusal.{Refusal}
use Rattle.at_setup.specs.declared.refusal.Refusal.TheVariants.{Limit, NoDatagram, NotForNode, Untimely}

abbrev pub number_of : Refusal → ℕ
number_of Limit = 73
number_of NoDatagram = 70
number_of NotForNode = 71
number_of Untimely = 72

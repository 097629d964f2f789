-- The refusals of the calls of an end of a stream, by number.
use Rattle.std.specs.Prelude.{ℕ, Option, Some, None}
use Rattle.at_adsp_end.specs.declared.fault.StreamFault.{StreamFault}
use Rattle.at_adsp_end.specs.declared.fault.StreamFault.TheVariants.{EndsFull, NotOpen, NoSuchEnd, NoRoom, Denied}
use Rattle.at_adsp_end.specs.declared.fault.StreamFault.TheVariants.{NoMemory}

-- the number by which a refusal is reported
abbrev pub number_of : StreamFault → Option ℕ
number_of EndsFull = Some 50
number_of NotOpen = Some 51
number_of NoSuchEnd = Some 52
number_of NoRoom = Some 53
number_of Denied = Some 54
number_of NoMemory = None

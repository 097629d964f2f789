-- Which faults a read may have.
use Rattle.at_faults.specs.declared.fault.Fault.{Fault}
use Rattle.at_faults.specs.declared.fault.Fault.TheVariants as fault
use Rattle.at_faults.specs.declared.fault.Unreadable.{Unreadable}
use Rattle.at_faults.specs.declared.fault.Unreadable.TheVariants.{Changed, Failed, System, TooLong}

-- the system told it, or no more is known
abbrev pub IsOfSystem : Unreadable → Type 0
IsOfSystem TooLong = ⊥
IsOfSystem Changed = ⊥
IsOfSystem (System code) = Unit {0}
IsOfSystem Failed = Unit {0}

-- the bytes are too many or can't be read to their end, or a growth was refused
abbrev pub IsOfBytes : Fault → Type 0
IsOfBytes (fault.Unreadable TooLong) = Unit {0}
IsOfBytes (fault.Unreadable Changed) = ⊥
IsOfBytes (fault.Unreadable (System code)) = Unit {0}
IsOfBytes (fault.Unreadable Failed) = Unit {0}
IsOfBytes (fault.Line number rule) = ⊥
IsOfBytes fault.NoMemory = Unit {0}

-- the system told it, or a growth was refused
abbrev pub IsOfRead : Fault → Type 0
IsOfRead (fault.Unreadable why) = IsOfSystem why
IsOfRead (fault.Line number rule) = ⊥
IsOfRead fault.NoMemory = Unit {0}

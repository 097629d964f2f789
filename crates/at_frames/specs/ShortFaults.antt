-- The faults of an input that does not begin with a short datagram.
use Rattle.std.specs.Prelude.{◌⊎◌, ℕ, ◌<◌, List, [], ◌∷◌, length}
use Rattle.std.specs.List.{AllByRecursion}
use Rattle.at_ddp.specs.Fault.{stated_length}
use Rattle.at_frames.specs.declared.short_fault.ShortFault.{ShortFault}
use Rattle.at_frames.specs.declared.short_fault.ShortFault.TheVariants.{Short, BadLength, Truncated}

-- the number by which a refusal is reported, the same as that of a long header's fault
abbrev pub number_of : ShortFault → ℕ
number_of Short = 1
number_of BadLength = 2
number_of Truncated = 3

-- the input has this fault; the length is in the low ten bits of the first two bytes
abbrev pub Stands : ShortFault → List ℕ → Type 0
Stands Short input = length input < 5
Stands BadLength input = (stated_length input < 5) ⊎ (591 < stated_length input)
Stands Truncated input = length input < stated_length input

-- the faults that are tested before this one
abbrev pub looked_for_before : ShortFault → List ShortFault
looked_for_before Short = []
looked_for_before BadLength = Short ∷ []
looked_for_before Truncated = Short ∷ BadLength ∷ []

-- the fault is the first one that the input has
pub record IsFirstFault (fault : ShortFault) (input : List ℕ) : Type 0 where
  pub stands : Stands fault input
  pub first : AllByRecursion (λ other. ¬ Stands other input) (looked_for_before fault)

-- The faults of an input that does not begin with a datagram.
use Rattle.std.specs.Prelude.{◌≢◌, ℕ, ◌+◌, ◌*◌, ◌%◌, ◌<◌, List, [], ◌∷◌, length, slice_index, slice_range, ◌⊎◌, Option}
use Rattle.std.specs.Prelude.{Some, None}
use Rattle.std.specs.List.{AllByRecursion}
use Rattle.at_ddp.specs.Sum.{sum_of}
use Rattle.at_ddp.specs.declared.fault.DdpFault.{DdpFault}
use Rattle.at_ddp.specs.declared.fault.DdpFault.TheVariants.{Short, BadLength, Truncated, BadSum, TooLong, NoMemory}

-- the number by which a refusal is reported
abbrev pub number_of : DdpFault → Option ℕ
number_of Short = Some 1
number_of BadLength = Some 2
number_of Truncated = Some 3
number_of BadSum = Some 4
number_of TooLong = Some 5
number_of NoMemory = None

-- the 16-bit number at a place
abbrev pub number_at : ℕ → List ℕ → ℕ
number_at i bytes = 256 * slice_index bytes i + slice_index bytes (i + 1)

abbrev pub stated_length : List ℕ → ℕ
stated_length input = number_at 0 input % 1024

-- the input has this fault
abbrev pub Stands : DdpFault → List ℕ → Type 0
Stands Short input = length input < 13
Stands BadLength input = (stated_length input < 13) ⊎ (599 < stated_length input)
Stands Truncated input = length input < stated_length input
Stands BadSum input = (number_at 2 input ≢ 0) × (number_at 2 input ≢ sum_of (slice_range input 4 (stated_length input)))
Stands TooLong input = ⊥
Stands NoMemory input = ⊥

-- the faults that are tested before this one
abbrev pub looked_for_before : DdpFault → List DdpFault
looked_for_before Short = []
looked_for_before BadLength = Short ∷ []
looked_for_before Truncated = Short ∷ BadLength ∷ []
looked_for_before BadSum = Short ∷ BadLength ∷ Truncated ∷ []
looked_for_before TooLong = []
looked_for_before NoMemory = []

-- the fault is the first one that the input has
pub record IsFirstFault (fault : DdpFault) (input : List ℕ) : Type 0 where
  pub stands : Stands fault input
  pub first : AllByRecursion (λ other. ¬ Stands other input) (looked_for_before fault)

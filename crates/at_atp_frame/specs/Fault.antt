-- The faults of an input that is no ATP packet.
use Rattle.std.specs.Prelude.{◌≡◌, ℕ, ◌+◌, ◌/◌, ◌<◌, List, [], ◌∷◌, length, slice_index, Option, Some, None}
use Rattle.std.specs.List.{AllByRecursion}
use Rattle.at_atp_frame.specs.declared.fault.AtpFault.{AtpFault}
use Rattle.at_atp_frame.specs.declared.fault.AtpFault.TheVariants.{ShortAtp, BadFunction, BadSequence, AtpTooLong, Full}
use Rattle.at_atp_frame.specs.declared.fault.AtpFault.TheVariants.{NoSuch, EmptyAnswer, StillPending, Gone, NoMemory}

-- the number by which a refusal is reported
abbrev pub number_of : AtpFault → Option ℕ
number_of ShortAtp = Some 10
number_of BadFunction = Some 11
number_of BadSequence = Some 12
number_of AtpTooLong = Some 13
number_of Full = Some 14
number_of NoSuch = Some 15
number_of EmptyAnswer = Some 16
number_of StillPending = Some 17
number_of Gone = Some 18
number_of NoMemory = None

-- the two highest bits of the control byte: 1 a request, 2 a response, 3 a release
abbrev pub function_of : List ℕ → ℕ
function_of input = slice_index input 0 / 64

-- the input has this fault
abbrev pub Stands : AtpFault → List ℕ → Type 0
Stands ShortAtp input = length input < 8
Stands BadFunction input = function_of input ≡ 0
Stands BadSequence input = (function_of input ≡ 2) × (7 < slice_index input 1)
Stands AtpTooLong input = 8 + 578 < length input
Stands Full input = ⊥
Stands NoSuch input = ⊥
Stands EmptyAnswer input = ⊥
Stands StillPending input = ⊥
Stands Gone input = ⊥
Stands NoMemory input = ⊥

-- the faults that are tested before this one
abbrev pub looked_for_before : AtpFault → List AtpFault
looked_for_before ShortAtp = []
looked_for_before BadFunction = ShortAtp ∷ []
looked_for_before BadSequence = ShortAtp ∷ BadFunction ∷ []
looked_for_before AtpTooLong = ShortAtp ∷ BadFunction ∷ BadSequence ∷ []
looked_for_before other = []

-- the fault is the first one that the input has
pub record IsFirstFault (fault : AtpFault) (input : List ℕ) : Type 0 where
  pub stands : Stands fault input
  pub first : AllByRecursion (λ other. ¬ Stands other input) (looked_for_before fault)

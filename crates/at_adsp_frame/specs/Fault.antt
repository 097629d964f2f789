-- The faults of an input that is no segment (Inside AppleTalk, ADSP, "Packet format").
use Rattle.std.specs.Prelude.{◌≡◌, ◌≢◌, ℕ, ◌/◌, ◌%◌, ◌<◌, ◌≤◌, List, [], ◌∷◌, length, take, drop, slice_index}
use Rattle.std.specs.Prelude.{◌⊎◌, Option, Some, None}
use Rattle.at_adsp_frame.specs.declared.fault.AdspFault.{AdspFault}
use Rattle.at_adsp_frame.specs.declared.fault.AdspFault.TheVariants.{ShortAdsp, BadControl, BadVersion, Attention}
use Rattle.at_adsp_frame.specs.declared.fault.AdspFault.TheVariants.{AdspTooLong, NoMemory}

-- the number by which a refusal is reported
abbrev pub number_of : AdspFault → Option ℕ
number_of ShortAdsp = Some 40
number_of BadControl = Some 41
number_of BadVersion = Some 42
number_of Attention = Some 43
number_of AdspTooLong = Some 44
number_of NoMemory = None

-- a control code that opens a connection
pub record IsOpening (code : ℕ) : Type 0 where
  pub least : 1 ≤ code
  pub most : code ≤ 4

-- the fault of an opening, by what follows its header: the fields are cut short, or say another version than 0x0100
abbrev pub IsOpeningFault : AdspFault → List ℕ → Type 0
IsOpeningFault ShortAdsp rest = length rest < 8
IsOpeningFault BadVersion rest = (8 ≤ length rest) × (take 2 rest ≢ 1 ∷ 0 ∷ [])
IsOpeningFault _ rest = ⊥

-- the fault of a control packet, by its code and what follows its header
abbrev pub IsControlFault : AdspFault → ℕ → List ℕ → Type 0
IsControlFault BadControl code rest = 8 < code
IsControlFault fault code rest = IsOpening code × IsOpeningFault fault rest

-- the fault of a packet other than an attention message, by its descriptor and what follows that
abbrev pub IsPartFault : AdspFault → ℕ → List ℕ → Type 0
IsPartFault AdspTooLong descriptor rest = (descriptor / 128 ≡ 0) × (572 < length rest)
IsPartFault fault descriptor rest = (descriptor / 128 ≡ 1) × IsControlFault fault (descriptor % 16) rest

-- the header is whole and of no attention message, and the rest of the input has the fault
pub record StandsBehindHeader (fault : AdspFault) (input : List ℕ) : Type 0 where
  pub whole : 13 ≤ length input
  pub plain : slice_index input 12 / 16 % 2 ≡ 0
  pub stands : IsPartFault fault (slice_index input 12) (drop 13 input)

-- the first fault of an input, in the order: header, attention bit, control code, length of an opening, its version,
-- and length of the data
abbrev pub IsFirstFault : AdspFault → List ℕ → Type 0
IsFirstFault ShortAdsp input = (length input < 13) ⊎ StandsBehindHeader ShortAdsp input
IsFirstFault Attention input = (13 ≤ length input) × (slice_index input 12 / 16 % 2 ≡ 1)
IsFirstFault fault input = StandsBehindHeader fault input

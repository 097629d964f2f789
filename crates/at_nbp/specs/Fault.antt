-- The faults of an input that does not begin with a packet (Inside AppleTalk, NBP, "NBP packet formats").
use Rattle.std.specs.Prelude.{◌≡◌, ℕ, ◌+◌, ◌*◌, ◌<◌, ◌≤◌, List, [], ◌∷◌, ◌++◌, length, drop, All, ◌⊎◌, Option}
use Rattle.std.specs.Prelude.{Some, None}
use Rattle.std.specs.List.{flat_map}
use Rattle.at_nbp.specs.Packets.{HasCount, code}
use Rattle.at_nbp.specs.Tuples.{Entry, IsString, IsTuple, string_spelling, tuple_spelling}
use Rattle.at_nbp.specs.declared.fault.NbpFault.{NbpFault}
use Rattle.at_nbp.specs.declared.fault.NbpFault.TheVariants.{ShortNbp, BadNbpFunction, BadCount, BadString, NoMemory}
use Rattle.at_nbp.specs.declared.fault.NbpFault.TheVariants.{NameInUse, NoSuchName, EmptyName, NamesFull}
use Rattle.at_nbp.specs.declared.fault.NbpFault.TheVariants.{LookupsFull, NoSuchLookup}
use Rattle.at_nbp.specs.declared.function.Function.{Function}

-- the number by which a refusal is reported
abbrev pub number_of : NbpFault → Option ℕ
number_of ShortNbp = Some 20
number_of BadNbpFunction = Some 21
number_of BadCount = Some 22
number_of BadString = Some 23
number_of NameInUse = Some 24
number_of NoSuchName = Some 25
number_of EmptyName = Some 26
number_of NamesFull = Some 27
number_of LookupsFull = Some 28
number_of NoSuchLookup = Some 29
number_of NoMemory = None

-- no whole string stands at the front: its length byte is missing or over 32, or its bytes are cut
abbrev pub IsBadString : List ℕ → Type 0
IsBadString [] = Unit {0}
IsBadString (len ∷ bytes) = (32 < len) ⊎ (length bytes < len)

-- fewer than three strings, and then a bad one
pub record HasBadString (bytes : List ℕ) : Type 0 where
  pub strings : List (List ℕ)
  pub each : All IsString strings
  pub fewer : length strings < 3
  pub rest : List ℕ
  pub follows : bytes ≡ flat_map string_spelling strings ++ rest
  pub bad : IsBadString rest

-- the fault of the tuple at the front: its address and enumerator are cut, or one of its strings is bad
abbrev pub IsTupleFault : NbpFault → List ℕ → Type 0
IsTupleFault ShortNbp bytes = length bytes < 5
IsTupleFault BadString bytes = (5 ≤ length bytes) × HasBadString (drop 5 bytes)
IsTupleFault _ bytes = ⊥

-- the bytes begin with fewer tuples than counted, and then comes the fault
pub record StandsAfterTuples (fault : NbpFault) (count : ℕ) (bytes : List ℕ) : Type 0 where
  pub tuples : List Entry
  pub each : All IsTuple tuples
  pub fewer : length tuples < count
  pub rest : List ℕ
  pub follows : bytes ≡ flat_map tuple_spelling tuples ++ rest
  pub stands : IsTupleFault fault rest

-- the header is whole and names a function
pub record HasFunction (input : List ℕ) (function : Function) (count id : ℕ) (bytes : List ℕ) : Type 0 where
  pub fits : count < 16
  pub header : input ≡ (16 * code function + count) ∷ id ∷ bytes

-- the header is right, and a tuple has the fault
pub record StandsInTuples (fault : NbpFault) (input : List ℕ) : Type 0 where
  pub function : Function
  pub count : ℕ
  pub id : ℕ
  pub bytes : List ℕ
  pub named : HasFunction input function count id bytes
  pub counted : HasCount function count
  pub stands : StandsAfterTuples fault count bytes

-- the header names a function that never has so many tuples
pub record HasBadCount (input : List ℕ) : Type 0 where
  pub function : Function
  pub count : ℕ
  pub id : ℕ
  pub bytes : List ℕ
  pub named : HasFunction input function count id bytes
  pub bad : ¬ HasCount function count

-- the header is whole, and its first byte names no function
pub record HasNoFunction (input : List ℕ) : Type 0 where
  pub whole : 2 ≤ length input
  pub none : (function : Function) (count id : ℕ) (bytes : List ℕ) → ¬ HasFunction input function count id bytes

-- the first fault of an input, in the order: header, function, number of tuples, then tuple by tuple
abbrev pub IsFirstFault : NbpFault → List ℕ → Type 0
IsFirstFault ShortNbp input = (length input < 2) ⊎ StandsInTuples ShortNbp input
IsFirstFault BadNbpFunction input = HasNoFunction input
IsFirstFault BadCount input = HasBadCount input
IsFirstFault BadString input = StandsInTuples BadString input
IsFirstFault _ input = ⊥

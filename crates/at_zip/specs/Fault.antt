-- The faults of a page that is no spelling (Inside AppleTalk, ZIP, "ZIP packet formats").
use Rattle.std.specs.Prelude.{◌≡◌, ℕ, ◌<◌, ◌≤◌, List, [], ◌∷◌, length, slice_index, ◌⊎◌, Option, Some, None}
use Rattle.at_ddp.specs.Fault.{number_at}
use Rattle.at_zip.specs.Names.{BeginsWithNames}
use Rattle.at_zip.specs.declared.fault.ZipFault.{ZipFault}
use Rattle.at_zip.specs.declared.fault.ZipFault.TheVariants.{NotZip, CountMismatch, BadZone, EmptyPage, TooManyZones}
use Rattle.at_zip.specs.declared.fault.ZipFault.TheVariants.{NoMemory}

-- the number by which a refusal is reported
abbrev pub number_of : ZipFault → Option ℕ
number_of NotZip = Some 30
number_of CountMismatch = Some 31
number_of BadZone = Some 32
number_of EmptyPage = Some 33
number_of TooManyZones = Some 34
number_of NoMemory = None

-- LastFlag of a page's user bytes
abbrev pub flag_of : List ℕ → ℕ
flag_of user = slice_index user 0

-- the number of names that the user bytes state
abbrev pub count_of : List ℕ → ℕ
count_of user = number_at 2 user

-- the fault of the name at the front: no length byte, a name cut short, or a length that is not 1 to 32
abbrev pub StandsAt : ZipFault → List ℕ → Type 0
StandsAt CountMismatch [] = Unit {0}
StandsAt CountMismatch (len ∷ bytes) = (1 ≤ len) × (len ≤ 32) × (length bytes < len)
StandsAt BadZone [] = ⊥
StandsAt BadZone (len ∷ bytes) = (len ≡ 0) ⊎ (32 < len)
StandsAt NotZip bytes = ⊥
StandsAt EmptyPage bytes = ⊥
StandsAt TooManyZones bytes = ⊥
StandsAt NoMemory bytes = ⊥

-- the bytes begin with fewer names than counted, and then comes the fault
pub record StandsAfterNames (fault : ZipFault) (count : ℕ) (bytes : List ℕ) : Type 0 where
  pub before : ℕ
  pub fewer : before < count
  pub rest : List ℕ
  pub begins : BeginsWithNames before bytes rest
  pub stands : StandsAt fault rest

-- the first fault of a page: it has no names and is not the last, or the fault of its first bad name
abbrev pub IsFirstFault : ZipFault → List ℕ → List ℕ → Type 0
IsFirstFault EmptyPage user bytes = (flag_of user ≡ 0) × (count_of user ≡ 0)
IsFirstFault CountMismatch user bytes = StandsAfterNames CountMismatch (count_of user) bytes
IsFirstFault BadZone user bytes = StandsAfterNames BadZone (count_of user) bytes
IsFirstFault NotZip user bytes = ⊥
IsFirstFault TooManyZones user bytes = ⊥
IsFirstFault NoMemory user bytes = ⊥

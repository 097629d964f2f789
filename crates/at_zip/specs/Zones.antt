-- Zone names, and a router's table of them (Inside AppleTalk, ZIP, "ZIP packet formats").
use Rattle.std.specs.Prelude.{ℕ, ◌<◌, ◌≤◌, ◌&&◌, nat_le, nat_lt, if◌then◌else◌, Bool, List, length, All, Option, Some}
use Rattle.std.specs.Prelude.{None}
use Rattle.std.specs.List.{list_all}
use Rattle.at_ddp.specs.Datagram.{AreBytes}
use Rattle.at_zip.specs.declared.fault.ZipFault.{ZipFault}
use Rattle.at_zip.specs.declared.fault.ZipFault.TheVariants.{BadZone, TooManyZones}

-- a zone name has 1 to 32 bytes
pub record IsName (name : List ℕ) : Type 0 where
  pub some : 0 < length name
  pub fits : length name ≤ 32
  pub bytes : AreBytes name

-- a table has at most 1,024 names, a limit of these crates
pub record IsTable (names : List (List ℕ)) : Type 0 where
  pub each : All IsName names
  pub count : length names ≤ 1024

-- ---- the same as tests

abbrev pub is_byte : ℕ → Bool
is_byte b = nat_lt b 256

abbrev pub is_name : List ℕ → Bool
is_name name = nat_lt 0 (length name) && nat_le (length name) 32 && list_all is_byte name

-- why these names are no table: there are too many, or one is no zone name
abbrev pub table_fault : List (List ℕ) → Option ZipFault
table_fault names =
    if nat_lt 1024 (length names) then Some TooManyZones else (if list_all is_name names then None else Some BadZone)

-- The two zone tables of a router: of all zones, and of those of its own cable (Inside AppleTalk, ZIP, "GetZoneList",
-- "GetLocalZones"). Neither is made of the other.
use Rattle.std.specs.Prelude.{ℕ, List}
use Rattle.at_zip.specs.declared.request.TableChoice.{TableChoice}
use Rattle.at_zip.specs.declared.request.TableChoice.TheVariants as which
use Rattle.at_zip.specs.Zones.{IsTable}

pub record Tables : Type 0 where
  pub all : List (List ℕ)
  pub local : List (List ℕ)

abbrev pub table_of : TableChoice → Tables → List (List ℕ)
table_of which.All t = t.all
table_of which.Local t = t.local

-- one of the tables becomes this one, and the other stays
abbrev pub with_table : TableChoice → List (List ℕ) → Tables → Tables
with_table which.All names t = record t { all = names }
with_table which.Local names t = record t { local = names }

-- each of them is a table
abbrev pub AreTables : Tables → Type 0
AreTables t = (which : TableChoice) → IsTable (table_of which t)

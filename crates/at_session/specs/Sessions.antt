-- What a node keeps of what its user was told (Inside AppleTalk, ZIP, "GetZoneList", "GetLocalZones"; NBP, "Name
-- lookup"). A user reads a zone list, picks a zone of it, looks names up there, and connects to one that was found.
use Rattle.std.specs.Prelude.{ℕ, ◌||◌, Bool, List, [], ◌∷◌, slice_get, option_map, Option, Some, None}
use Rattle.std.specs.List.{list_any}
use Rattle.at_ddp.specs.declared.address.Address.{Address}
use Rattle.at_nbp.specs.Names.{same_text}
use Rattle.at_nbp.specs.declared.find.Find.{Find}
use Rattle.at_nbp.specs.declared.name.Name.{Name}
use Rattle.at_zip.specs.Tables.{Tables, table_of, with_table}
use Rattle.at_event.specs.declared.Report.{Report}
use Rattle.at_event.specs.declared.Report.TheVariants as report
use Rattle.at_event.specs.declared.zones.ZoneReport.TheVariants as zip_report
use Rattle.at_event.specs.declared.names.NameReport.TheVariants as nbp_report

pub record SessionState : Type 0 where
  pub lists : Tables  -- the zone list of the last reading of each kind that ended with one
  pub picked : Option (List ℕ)  -- the zone that was picked last
  pub finds : List Find  -- what the last lookup found that ended, and was no claim

-- nothing was told yet
abbrev pub new_session : SessionState
new_session = record { lists = record { all = []; local = [] }; picked = None; finds = [] }

-- ---- zones

-- does the zone stand in one of the lists that were read, but for the case of letters?
abbrev pub is_listed : SessionState → List ℕ → Bool
is_listed s zone = list_any (same_text zone) (s.lists).all || list_any (same_text zone) (s.lists).local

-- the zone is kept as it was given
abbrev pub picking : SessionState → List ℕ → SessionState
picking s zone = record s { picked = Some zone }

-- ---- lookups

-- the zone that was picked, or every zone
abbrev pub zone_picked : Option (List ℕ) → List ℕ
zone_picked None = 0x2A ∷ []
zone_picked (Some zone) = zone

-- a lookup that names no zone asks for the one that was picked
abbrev pub zone_asked : SessionState → Option (List ℕ) → List ℕ
zone_asked s None = zone_picked s.picked
zone_asked s (Some zone) = zone

abbrev pub pattern_asked : SessionState → List ℕ → List ℕ → Option (List ℕ) → Name
pattern_asked s object kind zone = record { object = object; kind = kind; zone = zone_asked s zone }

-- the address of an entry of what was found, from 0
abbrev pub address_at : SessionState → ℕ → Option Address
address_at s index = option_map (λ f. f.address) (slice_get s.finds index)

-- ---- what is kept of a report

-- a reading that ends with a zone list leaves this list of its kind; any other report leaves the lists before it
abbrev pub list_kept : {A : Type 0} → SessionState → Report A → SessionState
list_kept s (report.Zones (zip_report.List which names)) = record s { lists = with_table which names s.lists }
list_kept s other = s

-- the list before it
abbrev pub list_replaced : {A : Type 0} → SessionState → Report A → Option (List (List ℕ))
list_replaced s (report.Zones (zip_report.List which names)) = Some (table_of which s.lists)
list_replaced s other = None

-- a lookup that ends leaves what it found; a claim leaves what was found before it
abbrev pub finds_kept : {A : Type 0} → SessionState → Report A → SessionState
finds_kept s (report.Names (nbp_report.Found finds)) = record s { finds = finds }
finds_kept s other = s

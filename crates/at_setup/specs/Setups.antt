-- Which setups are lawful.
use Rattle.std.specs.Prelude.{ℕ, ◌==◌, ◌&&◌, ◌||◌, nat_le, nat_lt, if◌then◌else◌, Bool, false, List, length}
use Rattle.std.specs.Prelude.{count_by, is_none, Option, Some, None}
use Rattle.std.specs.List.{list_all, list_any}
use Rattle.at_zip.specs.Tables.{Tables}
use Rattle.at_zip.specs.Zones.{is_name, table_fault}
use Rattle.at_setup.specs.declared.setup.NodeSetup.{NodeSetup}
use Rattle.at_setup.specs.declared.setup.Setup.{Setup}

-- the zone of a node, if it has one
abbrev pub is_zone : Option (List ℕ) → Bool
is_zone None = false
is_zone (Some name) = is_name name

-- a room of the ends of a node holds 1 to 65,535 items
abbrev pub is_room : ℕ → Bool
is_room places = nat_lt 0 places && nat_lt places 65536

-- a node by itself: its number is 1 to 254, and its rooms are lawful
abbrev pub is_lawful_node : NodeSetup → Bool
is_lawful_node n = nat_lt 0 n.node && nat_lt n.node 255 && is_room n.receive_room && is_room n.send_room

-- just one of these nodes has this node's number
abbrev pub stands_once : List NodeSetup → NodeSetup → Bool
stands_once ns n = count_by (λ m. m.node == n.node) ns == 1

abbrev pub has_router : List NodeSetup → Bool
has_router ns = list_any (λ n. n.router) ns

-- with a router each node is in a zone, and without one none is
abbrev pub are_in_zones : List NodeSetup → Bool
are_in_zones ns = if has_router ns then list_all (λ n. is_zone n.zone) ns else list_all (λ n. is_none n.zone) ns

abbrev pub are_lawful_nodes : List NodeSetup → Bool
are_lawful_nodes ns =
    nat_le (length ns) 16 && list_all is_lawful_node ns && list_all (stands_once ns) ns
    && nat_le (count_by (λ n. n.router) ns) 1 && are_in_zones ns

-- a zone table (Inside AppleTalk, ZIP, "Zones and zone names"), which is empty without a router
abbrev pub is_lawful_table : Bool → List (List ℕ) → Bool
is_lawful_table router names = is_none (table_fault names) && (router || (length names == 0))

-- the two tables of its router
abbrev pub tables_of : {A : Type 0} → Setup A → Tables
tables_of s = record { all = s.zones; local = s.local }

abbrev pub is_lawful : {A : Type 0} → Setup A → Bool
is_lawful s =
    nat_lt 0 s.net && nat_lt s.net 65536 && are_lawful_nodes s.nodes && is_lawful_table (has_router s.nodes) s.zones
    && is_lawful_table (has_router s.nodes) s.local

-- Which nodes may stand together.
use Rattle.std.specs.Prelude.{◌≡◌, ◌==◌, ◌&&◌, ◌||◌, not, if◌then◌else◌, Bool, true, ℕ, ◌+◌, nat_lt, List, ◌++◌, length}
use Rattle.std.specs.Prelude.{is_none, is_some}
use Rattle.std.specs.List.{list_any}
use Rattle.at_setup.specs.Setups.{are_lawful_nodes, has_router, is_lawful_node, is_zone}
use Rattle.at_setup.specs.declared.setup.NodeSetup.{NodeSetup}

-- a node by itself: its number and its rooms are lawful, and so is its zone if it has one
abbrev pub is_node : NodeSetup → Bool
is_node n = is_lawful_node n && (is_none n.zone || is_zone n.zone)

-- more nodes may follow, so that all of them are lawful
abbrev pub BeginNodes : List NodeSetup → Type 0
BeginNodes ns = (more : List NodeSetup) × (are_lawful_nodes (ns ++ more) ≡ true)

-- ---- the same as a test of one node more

abbrev pub has_number : ℕ → NodeSetup → Bool
has_number k n = n.node == k

-- some node is in a zone
abbrev pub have_zones : List NodeSetup → Bool
have_zones ns = list_any (λ n. is_some n.zone) ns

-- a router has to follow them
abbrev pub lacks_router : List NodeSetup → Bool
lacks_router ns = have_zones ns && not (has_router ns)

-- it is in a zone just if the nodes before it are
abbrev pub fits_zones : List NodeSetup → NodeSetup → Bool
fits_zones ns n = (length ns == 0) || (if is_some n.zone then have_zones ns else not (have_zones ns))

-- a router is in a zone and the only one, and a node in a zone leaves a place for a router that is still to come
abbrev pub router_fits : List NodeSetup → NodeSetup → Bool
router_fits ns n =
    if n.router then is_some n.zone && not (has_router ns)
    else (is_none n.zone || (has_router ns || nat_lt (length ns + 1) 16))

-- these nodes may go on with this one
abbrev pub node_fits : List NodeSetup → NodeSetup → Bool
node_fits ns n =
    nat_lt (length ns) 16 && not (list_any (has_number n.node) ns) && fits_zones ns n && router_fits ns n

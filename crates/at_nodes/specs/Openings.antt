-- The nodes of a setup before anything happened, each with what it knows of the others.
use Rattle.std.specs.Prelude.{ℕ, max, if◌then◌else◌, List, [], ◌∷◌, find, option_map, Option, Some, None}
use Rattle.at_adsp_end.specs.declared.rooms.Rooms.{Rooms}
use Rattle.at_name_socket.specs.declared.neighbour.Neighbour.{Neighbour}
use Rattle.at_node.specs.Nodes.{NodeState, opening}
use Rattle.at_setup.specs.Setups.{tables_of}
use Rattle.at_setup.specs.declared.setup.NodeSetup.{NodeSetup}
use Rattle.at_setup.specs.declared.setup.Setup.{Setup}

-- the number of the cable's router
abbrev pub router_of : List NodeSetup → Option ℕ
router_of ns = option_map (λ n. n.node) (find (λ n. n.router) ns)

-- a node that is in a zone, before these
abbrev pub joined : ℕ → Option (List ℕ) → List Neighbour → List Neighbour
joined node None ns = ns
joined node (Some zone) ns = record { node = node; zone = zone } ∷ ns

-- the nodes of a cable and their zones
abbrev pub neighbours_of : List NodeSetup → List Neighbour
neighbours_of [] = []
neighbours_of (n ∷ ns) = joined n.node n.zone (neighbours_of ns)

-- the rooms of a node's ends, where one place is the least
abbrev pub rooms_of : NodeSetup → Rooms
rooms_of n = record { receive = max n.receive_room 1; send = max n.send_room 1 }

-- only the router has the tables, and knows the zones of the other nodes
abbrev pub opening_node : {A : Type 0} → Setup A → NodeSetup → NodeState
opening_node s n =
    opening (record { net = s.net; number = n.node; router = router_of s.nodes }) n.zone
    (if n.router then Some (tables_of s) else None) (if n.router then Some (neighbours_of s.nodes) else None)
    (rooms_of n)

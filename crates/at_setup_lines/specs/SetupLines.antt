-- Which setup lines say. A line is the list of its words.
use Rattle.std.specs.Prelude.{◌≡◌, ◌⊎◌, ℕ, Bool, true, false, List, [], ◌∷◌, ◌++◌, Option, Some, None, codes}
use Rattle.std.specs.List.{AllZip}
use Rattle.at_words.specs.Numbers.{IsNode, IsPositive}
use Rattle.at_words.specs.Texts.{IsZoneName}
use Rattle.at_setup.specs.Setups.{has_router, is_lawful}
use Rattle.at_setup.specs.declared.setup.NodeSetup.{NodeSetup}
use Rattle.at_setup.specs.declared.setup.Setup.{Setup}

-- `net` and a number from 1 to 65,535
abbrev pub SaysNet : List (List ℕ) → ℕ → Type 0
SaysNet ws net = (word : List ℕ) × (ws ≡ codes "net" ∷ word ∷ []) × IsPositive word net

-- `router` for a router, and no word for another node
abbrev pub SaysRouter : List (List ℕ) → Bool → Type 0
SaysRouter ws true = ws ≡ codes "router" ∷ []
SaysRouter ws false = ws ≡ []

-- `zone` and the zone's name, or no words for a node in no zone
abbrev pub SaysZone : List (List ℕ) → Option (List ℕ) → Type 0
SaysZone ws None = ws ≡ []
SaysZone ws (Some name) = (word : List ℕ) × (ws ≡ codes "zone" ∷ word ∷ []) × IsZoneName word name

-- `rooms` and two numbers from 1 to 65,535, or no words for 64 and 64
abbrev pub SaysRooms : List (List ℕ) → ℕ → ℕ → Type 0
SaysRooms ws receive send =
    ((ws ≡ []) × (receive ≡ 64) × (send ≡ 64))
    ⊎ ((r s : List ℕ) × (ws ≡ codes "rooms" ∷ r ∷ s ∷ []) × IsPositive r receive × IsPositive s send)

-- the zone's words and then those of the rooms
abbrev pub SaysPlace : List (List ℕ) → Option (List ℕ) → ℕ → ℕ → Type 0
SaysPlace ws zone receive send =
    (zs rs : List (List ℕ)) × (ws ≡ zs ++ rs) × SaysZone zs zone × SaysRooms rs receive send

-- `node` and a number from 1 to 254, then the words of a router and of the place
abbrev pub SaysNode : List (List ℕ) → NodeSetup → Type 0
SaysNode ws node =
    (number : List ℕ) × (rs ps : List (List ℕ)) × (ws ≡ codes "node" ∷ number ∷ rs ++ ps)
    × IsNode number node.node × SaysRouter rs node.router × SaysPlace ps node.zone node.receive_room node.send_room

-- the word of a zone table, `zones` or `local`, and a word for each name
abbrev pub SaysTable : List ℕ → List (List ℕ) → List (List ℕ) → Type 0
SaysTable word ws names = (words : List (List ℕ)) × (ws ≡ word ∷ words) × AllZip IsZoneName words names

-- the first line says the network, and each line after it says a node
abbrev pub SayHead : List (List (List ℕ)) → ℕ → List NodeSetup → Type 0
SayHead [] net nodes = ⊥
SayHead (line ∷ lines) net nodes = SaysNet line net × AllZip SaysNode lines nodes

-- lines with `Before`, and then a line that says a zone table, which only a router has
abbrev pub EndInTable : List ℕ → (List (List (List ℕ)) → Type 0) → List NodeSetup → List (List (List ℕ))
    → List (List ℕ) → Type 0
EndInTable word Before nodes lines names =
    (front : List (List (List ℕ))) × (line : List (List ℕ)) × (lines ≡ front ++ line ∷ [])
    × Before front × SaysTable word line names × (has_router nodes ≡ true)

-- the same, or the lines with `Before` alone, and then the table is empty
abbrev pub MayEndInTable : List ℕ → (List (List (List ℕ)) → Type 0) → List NodeSetup → List (List (List ℕ))
    → List (List ℕ) → Type 0
MayEndInTable word Before nodes lines names =
    (Before lines × (names ≡ [])) ⊎ EndInTable word Before nodes lines names

-- the lines say a network and nodes, and then perhaps all zones
abbrev pub SayZones : List (List (List ℕ)) → ℕ → List NodeSetup → List (List ℕ) → Type 0
SayZones lines net nodes zones = MayEndInTable (codes "zones") (λ head. SayHead head net nodes) nodes lines zones

-- the lines say a setup: its network and nodes, then perhaps all zones, and then perhaps the local zones
abbrev pub AreSetup : {A : Type 0} → List (List (List ℕ)) → Setup A → Type 0
AreSetup lines s =
    MayEndInTable (codes "local") (λ front. SayZones front s.net s.nodes s.zones) s.nodes lines s.local

-- the lines say this setup, and it is lawful
abbrev pub IsSetup : {A : Type 0} → List (List (List ℕ)) → Setup A → Type 0
IsSetup lines s = AreSetup lines s × (is_lawful s ≡ true)

-- more lines may follow, so that all of them say a lawful setup
abbrev pub BeginSetup : Type 0 → List (List (List ℕ)) → Type 0
BeginSetup A lines = (more : List (List (List ℕ))) × (s : Setup A) × IsSetup (lines ++ more) s

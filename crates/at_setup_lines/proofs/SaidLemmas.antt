-- What is said is lawful by itself.
use Rattle.std.proofs.Common.{◌≡◌, inl, inr, ℕ, ◌<◌, true, ◌&&◌, ◌||◌, List, [], ◌∷◌, length, nat_le, nat_lt, Option}
use Rattle.std.proofs.Common.{Some, None, refl, ap, arith}
use Rattle.std.specs.Prelude.{is_none}
use Rattle.std.specs.List.{AllZip, list_all}
use Rattle.std.proofs.lemmas.Bool.{and_from, and_parts, le-leb, leb-true, lt-ltb}
use Rattle.hex.proofs.HexLemmas.{decode_of-ok}
use Rattle.at_words.specs.Numbers.{IsPositive}
use Rattle.at_words.specs.Texts.{AreGlyphs, IsGlyph, IsZoneName}
use Rattle.at_zip.specs.Zones.{is_byte, is_name}
use Rattle.at_setup.specs.Setups.{is_lawful_node, is_room, is_zone}
use Rattle.at_setup.specs.declared.setup.NodeSetup.{NodeSetup}
use Rattle.at_setup_lines.specs.NodeLists.{is_node}
use Rattle.at_setup_lines.specs.SetupLines.{SaysNode, SaysRooms, SaysZone}
use Rattle.at_setup_lines.proofs.NameLemmas.{glyphs_of}

-- ---- names

glyph_byte : (piece : List ℕ) (byte : ℕ) → IsGlyph piece byte → byte < 256
glyph_byte piece byte (inl (one, seen, apart)) =
    let parts = and_parts (nat_le 33 byte) (nat_le byte 126) seen in
    let small = leb-true byte 126 parts.1 in
    omega (arith, small)
glyph_byte piece byte (inr (digits, one, decoded)) = let (even, each, twice, bytes) =
    decode_of-ok digits (byte ∷ []) decoded in bytes 0

all_bytes : (word name : List ℕ) → AreGlyphs word name → list_all is_byte name ≡ true
all_bytes word [] h = refl
all_bytes word (byte ∷ name) (rest, (piece, is, glyph), more) =
    and_from (nat_lt byte 256) (list_all is_byte name) (lt-ltb byte 256 (glyph_byte piece byte glyph))
    (all_bytes rest name more)

pub name_said : (word name : List ℕ) → IsZoneName word name → is_name name ≡ true
name_said word name h =
    let few = h.0.1 in
    and_from (nat_lt 0 (length name) && nat_le (length name) 32) (list_all is_byte name)
    (and_from (nat_lt 0 (length name)) (nat_le (length name) 32) (lt-ltb 0 (length name) h.1)
    (le-leb (length name) 32 (omega (arith, few))))
    (all_bytes word name (glyphs_of word name h))

pub names_said : (words names : List (List ℕ)) → AllZip IsZoneName words names → list_all is_name names ≡ true
names_said [] [] h = refl
names_said [] (x ∷ names) h = absurd h
names_said (w ∷ words) [] h = absurd h
names_said (w ∷ words) (x ∷ names) h = and_from (is_name x) (list_all is_name names) (name_said w x h.0)
    (names_said words names h.1)

-- ---- a node

room_said : (w : List ℕ) (n : ℕ) → IsPositive w n → is_room n ≡ true
room_said w n h = and_from (nat_lt 0 n) (nat_lt n 65536) (lt-ltb 0 n h.1) (lt-ltb n 65536 h.2)

rooms_said : (ws : List (List ℕ)) (r s : ℕ) → SaysRooms ws r s → (is_room r ≡ true) × (is_room s ≡ true)
rooms_said ws r s (inl (none, a, b)) = (ap is_room a, ap is_room b)
rooms_said ws r s (inr (w, v, is, h, g)) = (room_said w r h, room_said v s g)

zone_said : (ws : List (List ℕ)) (z : Option (List ℕ)) → SaysZone ws z → (is_none z || is_zone z) ≡ true
zone_said ws None h = refl
zone_said ws (Some name) (w, is, named) = name_said w name named

pub node_said : (ws : List (List ℕ)) (n : NodeSetup) → SaysNode ws n → is_node n ≡ true
node_said ws n (w, rs, ps, is, number, router, (zs, ms, same, zone, rooms)) =
    let room = rooms_said ms n.receive_room n.send_room rooms in
    and_from (is_lawful_node n) (is_none n.zone || is_zone n.zone)
    (and_from (nat_lt 0 n.node && nat_lt n.node 255 && is_room n.receive_room) (is_room n.send_room)
    (and_from (nat_lt 0 n.node && nat_lt n.node 255) (is_room n.receive_room)
    (and_from (nat_lt 0 n.node) (nat_lt n.node 255) (lt-ltb 0 n.node number.1) (lt-ltb n.node 255 number.2)) room.0)
    room.1)
    (zone_said zs n.zone zone)

-- The tuples of NBP packets (Inside AppleTalk, NBP, "NBP packet formats": the NBP tuple).
use Rattle.std.specs.Prelude.{ℕ, ◌<◌, ◌≤◌, List, [], ◌∷◌, ◌++◌, length, All}
use Rattle.std.specs.List.{flat_map}
use Rattle.std.specs.Int.{to_be_bytes, w16}
use Rattle.at_ddp.specs.Datagram.{AreBytes, IsAddress}
use Rattle.at_ddp.specs.declared.address.Address.{Address}
use Rattle.at_nbp.specs.declared.tuple.Tuple.{Tuple}

-- a name with the address that has it, wherever its strings lie in memory
pub record Entry : Type 0 where
  pub address : Address
  pub enumerator : ℕ
  pub object : List ℕ
  pub kind : List ℕ
  pub zone : List ℕ

abbrev pub content : Tuple → Entry
content t = record {
  address = t.address;
  enumerator = t.enumerator;
  object = t.object.now;
  kind = t.kind.now;
  zone = t.zone.now;
}

-- an object, a type or a zone has at most 32 bytes
pub record IsString (text : List ℕ) : Type 0 where
  pub fits : length text ≤ 32
  pub bytes : AreBytes text

-- object, type and zone, as they follow each other in a tuple
abbrev pub strings_of : Entry → List (List ℕ)
strings_of t = t.object ∷ t.kind ∷ t.zone ∷ []

-- no string is too long
abbrev pub FitsStrings : Entry → Type 0
FitsStrings t = All (λ text. length text ≤ 32) (strings_of t)

-- a tuple whose fields are in range
pub record IsTuple (t : Entry) : Type 0 where
  pub address : IsAddress t.address
  pub enumerator : t.enumerator < 256
  pub each : All IsString (strings_of t)

-- a length byte, and the bytes
abbrev pub string_spelling : List ℕ → List ℕ
string_spelling text = length text ∷ text

-- network, node, socket and enumerator, and then the strings
abbrev pub tuple_spelling : Entry → List ℕ
tuple_spelling t =
    to_be_bytes w16 t.address.net ++ (t.address.node ∷ t.address.socket ∷ t.enumerator ∷ [])
    ++ flat_map string_spelling (strings_of t)

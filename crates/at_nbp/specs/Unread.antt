-- Tuples that stay in the bytes that they came in (Inside AppleTalk, NBP, "NBP packet formats").
use Rattle.std.specs.Prelude.{◌≡◌, ℕ, zero, suc, ◌≤◌, List, [], ◌∷◌, ◌++◌, take, drop, slice_index, All}
use Rattle.std.specs.List.{flat_map}
use Rattle.at_ddp.specs.Fault.{number_at}
use Rattle.at_nbp.specs.Tuples.{Entry, IsTuple, tuple_spelling}

-- the string at the front, which follows its length byte
abbrev pub string_at : List ℕ → List ℕ
string_at [] = []
string_at (len ∷ bytes) = take len bytes

-- and what follows that string
abbrev pub after_string : List ℕ → List ℕ
after_string [] = []
after_string (len ∷ bytes) = drop len bytes

-- the tuple at the front: network, node, socket and enumerator, and three strings
abbrev pub entry_at : List ℕ → Entry
entry_at bytes = record {
  address = record { net = number_at 0 bytes; node = slice_index bytes 2; socket = slice_index bytes 3 };
  enumerator = slice_index bytes 4;
  object = string_at (drop 5 bytes);
  kind = string_at (after_string (drop 5 bytes));
  zone = string_at (after_string (after_string (drop 5 bytes)));
}

-- and what follows that tuple
abbrev pub after_entry : List ℕ → List ℕ
after_entry bytes = after_string (after_string (after_string (drop 5 bytes)))

-- so many tuples at the front, one behind the other
abbrev pub entries : ℕ → List ℕ → List Entry
entries zero bytes = []
entries (suc n) bytes = entry_at bytes ∷ entries n (after_entry bytes)

-- a packet has at most 15 tuples, and the bytes begin with the spellings of so many
pub record AreUnread (count : ℕ) (bytes : List ℕ) : Type 0 where
  pub few : count ≤ 15
  pub each : All IsTuple (entries count bytes)
  pub rest : List ℕ
  pub follows : bytes ≡ flat_map tuple_spelling (entries count bytes) ++ rest

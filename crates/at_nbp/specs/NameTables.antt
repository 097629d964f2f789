-- A node's table of its own names (Inside AppleTalk, NBP, "Names directory" and "Name registration").
use Rattle.std.specs.Prelude.{◌≡◌, ℕ, zero, suc, ◌+◌, ◌<◌, ◌≤◌, ◌==◌, ◌&&◌, ◌||◌, nat_le, is_some, if◌then◌else◌, Bool}
use Rattle.std.specs.Prelude.{true, false, List, [], ◌∷◌, ◌++◌, length, find, Option, Some, None}
use Rattle.std.specs.List.{IsDistinct, list_any}
use Rattle.std.specs.Str.{bytes_eq}
use Rattle.at_ddp.specs.declared.address.Address.{Address}
use Rattle.at_nbp.specs.Names.{is_any_text, same_text}
use Rattle.at_nbp.specs.declared.fault.NbpFault.{NbpFault}
use Rattle.at_nbp.specs.declared.fault.NbpFault.TheVariants.{NameInUse, EmptyName, NamesFull}
use Rattle.at_nbp.specs.declared.find.Find.{Find}
use Rattle.at_nbp.specs.declared.names.Registered.{Registered}

-- the names of a node, in the order in which they were registered; the node's network and number, and its zone
pub record Table : Type 0 where
  pub own : Address
  pub zone : List ℕ
  pub names : List Registered

-- the name has this object and type, but for the case of letters
abbrev pub is_called : List ℕ → List ℕ → Registered → Bool
is_called object kind name = same_text name.object object && same_text name.kind kind

-- no object and no type is empty or just `=`
abbrev pub is_no_text : List ℕ → Bool
is_no_text text = bytes_eq text [] || is_any_text text

-- why a name cannot be registered
abbrev pub register_fault : List Registered → List ℕ → List ℕ → Option NbpFault
register_fault names object kind =
    if is_no_text object || is_no_text kind then Some EmptyName
    else if is_some (find (is_called object kind) names) then Some NameInUse
    else if nat_le 64 (length names) then Some NamesFull else None

-- a name of the socket has this enumerator
abbrev pub has_number : ℕ → ℕ → Registered → Bool
has_number socket number name = (name.socket == socket) && (name.enumerator == number)

-- the least number that no name of the socket has
pub record IsLeastFree (names : List Registered) (socket number : ℕ) : Type 0 where
  pub free : list_any (has_number socket number) names ≡ false
  pub least : (n : ℕ) → n < number → list_any (has_number socket n) names ≡ true

-- the table has one name more, with the least free enumerator of its socket
pub record IsRegistered (object kind : List ℕ) (socket : ℕ) (old new : Table) : Type 0 where
  pub enumerator : ℕ
  pub least : IsLeastFree old.names socket enumerator
  pub joins : new ≡ record old {
    names = old.names
        ++ record { object = object; kind = kind; socket = socket; enumerator = enumerator } ∷ [];
  }

-- the first number from this one on that no name of the socket has, if it takes at most so many tries
abbrev pub number_from : ℕ → ℕ → List Registered → ℕ → ℕ
number_from zero number names socket = number
number_from (suc tries) number names socket =
    if list_any (has_number socket number) names then number_from tries (number + 1) names socket else number

-- the same table, computed
abbrev pub registered : Table → List ℕ → List ℕ → ℕ → Table
registered table object kind socket = record table {
  names = table.names
      ++ record {
        object = object;
        kind = kind;
        socket = socket;
        enumerator = number_from (length table.names) 0 table.names socket;
      } ∷ [];
}

-- a name of the node's own, as others find it
abbrev pub own_find : Table → Registered → Find
own_find table name = record {
  name = record { object = name.object; kind = name.kind; zone = table.zone };
  address = record { net = table.own.net; node = table.own.node; socket = name.socket };
  enumerator = name.enumerator;
}

-- what holds of the names of every table
pub record AreNames (names : List Registered) : Type 0 where
  -- at most 64 stand
  pub few : length names ≤ 64
  -- no two have the same object and the same type, but for the case of letters
  pub differ : IsDistinct (λ a b. is_called b.object b.kind a) names
  -- no two names of one socket have the same enumerator
  pub numbers : IsDistinct (λ a b. has_number b.socket b.enumerator a) names

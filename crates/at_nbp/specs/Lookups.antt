-- A node's open lookups, and what each call does to them (Inside AppleTalk, NBP, "Name lookup").
use Rattle.std.specs.Prelude.{◌≡◌, ℕ, ◌+◌, ◌-◌, ◌%◌, ◌≤◌, ◌<◌, ◌==◌, ◌&&◌, not, nat_lt, if◌then◌else◌, Bool}
use Rattle.std.specs.Prelude.{true, false, List, [], ◌∷◌, ◌++◌, length, find, Option, Some, None, Result, Ok, Err}
use Rattle.std.specs.List.{AllByRecursion, IsDistinct, list_any}
use Rattle.std.specs.Str.{bytes_eq}
use Rattle.at_ddp.specs.Address.{same_address}
use Rattle.at_ddp.specs.Tables.{replaced, without_first}
use Rattle.at_ddp.specs.declared.address.Address.{Address}
use Rattle.at_ddp.specs.Numbers.{first_free}
use Rattle.at_nbp.specs.Names.{is_any_zone, is_match}
use Rattle.at_nbp.specs.Packets.{Content, spelling}
use Rattle.at_nbp.specs.Tuples.{Entry}
use Rattle.at_nbp.specs.declared.fault.NbpFault.{NbpFault}
use Rattle.at_nbp.specs.declared.fault.NbpFault.TheVariants.{NoSuchLookup}
use Rattle.at_nbp.specs.declared.find.Find.{Find}
use Rattle.at_nbp.specs.declared.function.Function.{Function}
use Rattle.at_nbp.specs.declared.function.Function.TheVariants.{BroadcastRequest, LookUp, Reply}
use Rattle.at_nbp.specs.declared.name.Name.{Name}

-- an open lookup: its identifier, the pattern that it asks for, and what was found so far, in order of arrival
pub record Search : Type 0 where
  pub id : ℕ
  pub pattern : Name
  pub finds : List Find

-- who asks, whom it asks by which function, the identifier to try next, and the open lookups in the order in which they
-- began
pub record Lookups : Type 0 where
  pub own : Address
  pub to : Address
  pub function : Function
  pub next : ℕ
  pub searches : List Search

-- a lookup is asked of the router, or of every node
abbrev pub is_question : Function → Bool
is_question BroadcastRequest = true
is_question LookUp = true
is_question _ = false

abbrev pub is_reply : Function → Bool
is_reply Reply = true
is_reply _ = false

abbrev pub has_id : ℕ → Search → Bool
has_id id s = s.id == id

-- the lookup with this identifier, if it is open
abbrev pub search_of : Lookups → ℕ → Option Search
search_of l id = find (has_id id) l.searches

-- ---- what is asked

-- the first identifier from this one on that is not open, if it takes at most so many tries
abbrev pub free_id : ℕ → ℕ → List Search → Option ℕ
free_id tries first searches = first_free (λ id. (id + 1) % 256) (λ id. list_any (has_id id) searches) tries first

-- the identifier of the next lookup; none if 8 lookups are open
abbrev pub next_id : Lookups → Option ℕ
next_id l = if nat_lt (length l.searches) 8 then free_id (length l.searches + 1) l.next l.searches else None

-- `*` alone
abbrev pub is_star : List ℕ → Bool
is_star zone = bytes_eq zone (0x2A ∷ [])

-- a pattern with an empty zone asks for any zone, as `*` does
abbrev pub asked : Name → Name
asked pattern = record pattern { zone = if is_any_zone pattern.zone then 0x2A ∷ [] else pattern.zone }

-- a lookup as it begins
abbrev pub beginning : ℕ → Name → Search
beginning id pattern = record { id = id; pattern = asked pattern; finds = [] }

-- the tuple of a question has the pattern, and the address of the one who asks
abbrev pub asking : Address → Name → Entry
asking own pattern = record {
  address = own;
  enumerator = 0;
  object = pattern.object;
  kind = pattern.kind;
  zone = pattern.zone;
}

abbrev pub question : Lookups → Search → Content
question l s = record { function = l.function; id = s.id; tuples = asking l.own s.pattern ∷ [] }

abbrev pub sent_question : Lookups → Search → Address × List ℕ
sent_question l s = (l.to, spelling (question l s))

abbrev pub begun : Lookups → Search → Lookups
begun l s = record l { next = (s.id + 1) % 256; searches = l.searches ++ s ∷ [] }

-- ---- what is found

-- a tuple of a reply as a find: its zone `*` is read as the zone that the lookup asks for
abbrev pub find_of : Name → Entry → Find
find_of pattern t = record {
  name =
      record {
        object = t.object;
        kind = t.kind;
        zone = if is_star t.zone then pattern.zone else t.zone;
      };
  address = t.address;
  enumerator = t.enumerator;
}

-- equal byte for byte: name, address and enumerator
abbrev pub same_find : Find → Find → Bool
same_find a b =
    bytes_eq a.name.object b.name.object && bytes_eq a.name.kind b.name.kind && bytes_eq a.name.zone b.name.zone
    && same_address a.address b.address && (a.enumerator == b.enumerator)

-- a find joins if it matches the pattern, is new, and fewer than 256 finds are there
abbrev pub joins : Name → List Find → Find → Bool
joins pattern finds f =
    is_match pattern f.name && not (list_any (same_find f) finds) && nat_lt (length finds) 256

abbrev pub joined : Name → List Find → Find → List Find
joined pattern finds f = if joins pattern finds f then finds ++ f ∷ [] else finds

-- the finds after these tuples, one after the other
abbrev pub all_joined : Name → List Find → List Entry → List Find
all_joined pattern finds [] = finds
all_joined pattern finds (t ∷ ts) = all_joined pattern (joined pattern finds (find_of pattern t)) ts

abbrev pub answered : Search → List Entry → Search
answered s tuples = record s { finds = all_joined s.pattern s.finds tuples }

-- what a packet does: how many finds are new, and the lookups after it
pub record Heard : Type 0 where
  pub count : ℕ
  pub after : Lookups

abbrev pub reply_came : Lookups → Content → Option Search → Heard
reply_came l p None = record { count = 0; after = l }
reply_came l p (Some s) = record {
  count = length (answered s p.tuples).finds - length s.finds;
  after = record l { searches = replaced (has_id p.id) (answered s p.tuples) l.searches };
}

-- only a reply to an open lookup changes anything
abbrev pub heard : Lookups → Content → Heard
heard l p = reply_came l p (if is_reply p.function then search_of l p.id else None)

-- ---- what was found

abbrev pub finds_in : Option Search → List Find
finds_in None = []
finds_in (Some s) = s.finds

abbrev pub counted : Option Search → Result ℕ NbpFault
counted None = Err NoSuchLookup
counted (Some s) = Ok (length s.finds)

-- the lookups after the one with this identifier is closed
abbrev pub closed : Lookups → ℕ → Lookups
closed l id = record l { searches = without_first (has_id id) l.searches }

-- ---- what holds of every table of lookups

-- at most 256 finds, each of which matches the pattern, and no two of which are the same
pub record IsSearch (s : Search) : Type 0 where
  pub few : length s.finds ≤ 256
  pub match : AllByRecursion (λ f. is_match s.pattern f.name ≡ true) s.finds
  pub differ : IsDistinct same_find s.finds

-- at most 8 lookups are open, under identifiers that differ
pub record AreLookups (l : Lookups) : Type 0 where
  pub asks : is_question l.function ≡ true
  pub few : length l.searches ≤ 8
  pub next_fits : l.next < 256
  pub differ : IsDistinct (λ a b. has_id a.id b) l.searches
  pub each : AllByRecursion IsSearch l.searches

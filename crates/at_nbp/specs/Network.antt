-- A network of names and lookups at any addresses that ask and answer each other. Each packet may come late, again or
-- never (Inside AppleTalk, NBP, "Name lookup").
use Rattle.std.specs.Prelude.{◌≡◌, ℕ, ◌+◌, ◌<◌, ◌==◌, ◌&&◌, ◌||◌, not, nat_le, Bool, true, List, []}
use Rattle.std.specs.Prelude.{◌∷◌, ◌++◌, length, drop, map, find, replicate, Contains, Option, Some, None}
use Rattle.std.specs.List.{AllByRecursion, list_all}
use Rattle.at_ddp.specs.Address.{same_address}
use Rattle.at_ddp.specs.Tables.{without_first}
use Rattle.at_ddp.specs.Posts.{Post, Posts, packet_at, put, stamped}
use Rattle.at_ddp.specs.declared.address.Address.{Address}
use Rattle.at_nbp.specs.Lookups as lookups
use Rattle.at_nbp.specs.Lookups.{Lookups, Search, AreLookups, asked, beginning, closed, find_of, heard, is_question}
use Rattle.at_nbp.specs.Lookups.{next_id, question, search_of}
use Rattle.at_nbp.specs.NameTables.{Table, is_called}
use Rattle.at_nbp.specs.Packets.{Content}
use Rattle.at_nbp.specs.Relays.{asks_router, relayed}
use Rattle.at_nbp.specs.Replies.{AreReplies, entry_in, matching, pattern_of}
use Rattle.at_nbp.specs.Tuples.{Entry}
use Rattle.at_nbp.specs.declared.find.Find.{Find}
use Rattle.at_nbp.specs.declared.function.Function.{Function}
use Rattle.at_nbp.specs.declared.function.Function.TheVariants.{LookUp, Reply}
use Rattle.at_nbp.specs.declared.name.Name.{Name}
use Rattle.at_nbp.specs.declared.names.Registered.{Registered}

-- what never changes: the zone of the names at an address, and whom the lookups there ask by which function
pub record Setting : Type 0 where
  pub zone : Address → List ℕ
  pub to : Address → Address
  pub function : Address → Function

-- lookups are asked of a router, or of every node
abbrev pub AllAsk : Setting → Type 0
AllAsk setting = (at : Address) → is_question (setting.function at) ≡ true

-- a packet that was sent, with the event that sent it
abbrev pub Sent : Type 0
Sent = Post Content

-- a lookup that began, with the event that drew its identifier
pub record Begun : Type 0 where
  pub event : ℕ
  pub who : Address
  pub id : ℕ
  pub pattern : Name

pub record Network : Type 0 where
  pub event : ℕ  -- how many events there were
  pub tables : Address → Table  -- the names at each address
  pub lookups : Address → Lookups  -- the open lookups at each address
  pub sent : Posts Content
  pub begun : List Begun  -- all lookups that ever began, newest first

-- before anything happened
abbrev pub opening : Setting → Network
opening setting = record {
  event = 0;
  tables = λ at. record { own = at; zone = setting.zone at; names = [] };
  lookups = λ at.
      record { own = at; to = setting.to at; function = setting.function at; next = 0; searches = [] };
  sent = [];
  begun = [];
}

-- ---- what happens

pub data Happening : Type 0 where
  -- a lookup begins under the next identifier
  Begins : (who : Address) (pattern : Name) → Happening
  -- an open lookup is asked again
  Retries : (who : Address) (id : ℕ) → Happening
  -- a lookup is closed
  Finishes : (who : Address) (id : ℕ) → Happening
  -- a packet comes to the lookups at the address that it was sent to
  Hears : (datagram : ℕ) → Happening
  -- a packet comes to the names at an address, which send these replies
  Answers : (datagram : ℕ) (at : Address) (replies : List (List Entry)) → Happening
  -- a packet comes to a router, which relays it to an address, with the zone of the node that asks
  Relays : (datagram : ℕ) (at to : Address) (zone : List ℕ) → Happening
  -- a name is registered
  Registers : (at : Address) (name : Registered) → Happening
  -- the name of this object and type is taken away
  Unregisters : (at : Address) (object kind : List ℕ) → Happening
  -- a lookup is closed, and a name registered in the same event
  Claims : (at : Address) (id : ℕ) (name : Registered) → Happening
  -- an event outside this network, which sends so many foreign datagrams
  Other : (count : ℕ) → Happening

abbrev pub with_sent : Network → Address → List (Address × Content) → Network
with_sent n from sent = record n { sent = n.sent ++ stamped n.event from sent }

abbrev pub asks : Network → Address → Search → Network
asks n who s = with_sent n who (((n.lookups who).to, question (n.lookups who) s) ∷ [])

abbrev pub begins : Network → Address → Name → Option ℕ → Network
begins n who pattern None = n
begins n who pattern (Some id) = record (asks n who (beginning id pattern)) {
  lookups = put n.lookups who (lookups.begun (n.lookups who) (beginning id pattern));
  begun = record { event = n.event; who = who; id = id; pattern = pattern } ∷ n.begun;
}

abbrev pub retries : Network → Address → Option Search → Network
retries n who None = n
retries n who (Some s) = asks n who s

abbrev pub finishes : Network → Address → ℕ → Network
finishes n who id = record n { lookups = put n.lookups who (closed (n.lookups who) id) }

abbrev pub hears : Network → Option Sent → Network
hears n None = n
hears n (Some s) = record n { lookups = put n.lookups s.to (heard (n.lookups s.to) s.packet).after }

-- a reply has the identifier of the lookup that it answers
abbrev pub reply_to : Address → ℕ → List Entry → Address × Content
reply_to to id tuples = (to, record { function = Reply; id = id; tuples = tuples })

-- the replies go to the address that the tuple of the lookup has
abbrev pub answers_with : Network → Address → ℕ → List (List Entry) → List Entry → Network
answers_with n at id replies [] = n
answers_with n at id replies (t ∷ ts) = with_sent n at (map (reply_to t.address id) replies)

abbrev pub answers : Network → Address → List (List Entry) → Option Sent → Network
answers n at replies None = n
answers n at replies (Some s) = answers_with n at s.packet.id replies s.packet.tuples

abbrev pub relays : Network → Address → Address → List ℕ → Option Sent → Network
relays n at to zone None = n
relays n at to zone (Some s) = with_sent n at ((to, relayed zone s.packet) ∷ [])

abbrev pub with_names : Network → Address → List Registered → Network
with_names n at names = record n { tables = put n.tables at (record (n.tables at) { names = names }) }

abbrev pub registers : Network → Address → Registered → Network
registers n at name = with_names n at ((n.tables at).names ++ name ∷ [])

abbrev pub unregisters : Network → Address → List ℕ → List ℕ → Network
unregisters n at object kind = with_names n at (without_first (is_called object kind) (n.tables at).names)

abbrev pub done : Network → Happening → Network
done n (Begins who pattern) = begins n who pattern (next_id (n.lookups who))
done n (Retries who id) = retries n who (search_of (n.lookups who) id)
done n (Finishes who id) = finishes n who id
done n (Hears datagram) = hears n (packet_at n.sent datagram)
done n (Answers datagram at replies) = answers n at replies (packet_at n.sent datagram)
done n (Relays datagram at to zone) = relays n at to zone (packet_at n.sent datagram)
done n (Registers at name) = registers n at name
done n (Unregisters at object kind) = unregisters n at object kind
done n (Claims at id name) = registers (finishes n at id) at name
done n (Other count) = record n { sent = n.sent ++ replicate count None }

-- one event more
abbrev pub tick : Network → Network
tick n = record n { event = n.event + 1 }

-- the network after a history, whose newest happening comes first
abbrev pub after : Setting → List Happening → Network
after setting [] = opening setting
after setting (h ∷ hs) = tick (done (after setting hs) h)

-- ---- histories in which no reply outlives its identifier

-- the lookup has another identifier or address, or began no later than in this event
abbrev pub is_no_later : Address → ℕ → ℕ → Begun → Bool
is_no_later who id event b = not (same_address b.who who && (b.id == id)) || nat_le b.event event

-- no event after the one that sent a reply drew its identifier at the address that it goes to
abbrev pub is_fresh : List Begun → Sent → Bool
is_fresh begun s = list_all (is_no_later s.to s.packet.id s.event) begun

-- each packet comes to lookups before its identifier is drawn again there
abbrev pub IsTimely : Network → Happening → Type 0
IsTimely n (Hears datagram) = (s : Sent) → packet_at n.sent datagram ≡ Some s → is_fresh n.begun s ≡ true
IsTimely n other = Unit {0}

-- the replies to the tuple of a lookup are the names that match, and each is as full as fits
abbrev pub AreMatches : Table → List (List Entry) → List Entry → Type 0
AreMatches table replies [] = Unit {0}
AreMatches table replies (t ∷ ts) = AreReplies (matching table (pattern_of t)) replies

-- a lookup alone is answered, with the names that match, and a request alone is relayed
abbrev pub IsAnswered : Network → Happening → Type 0
IsAnswered n (Answers datagram at replies) =
    (s : Sent) → packet_at n.sent datagram ≡ Some s
    → (s.packet.function ≡ LookUp) × AreMatches (n.tables at) replies s.packet.tuples
IsAnswered n (Relays datagram at to zone) =
    (s : Sent) → packet_at n.sent datagram ≡ Some s → asks_router s.packet.function ≡ true
IsAnswered n other = Unit {0}

abbrev pub AllTimely : Setting → List Happening → Type 0
AllTimely setting [] = Unit {0}
AllTimely setting (h ∷ hs) =
    IsTimely (after setting hs) h × IsAnswered (after setting hs) h × AllTimely setting hs

-- ---- what holds after such a history

-- The tuple was that of a registered name, at the address of the node that has it, at a moment after this event. A
-- moment is the network after so many of the happenings, and this one was so many events ago.
pub record Stood (setting : Setting) (history : List Happening) (event : ℕ) (t : Entry) : Type 0 where
  pub ago : ℕ
  pub since : event + ago < length history
  pub at : Address
  pub owns : ((after setting (drop ago history)).tables at).own ≡ at
  pub name : Registered
  pub there : Contains ((after setting (drop ago history)).tables at).names name
  pub is : t ≡ entry_in ((after setting (drop ago history)).tables at) name

-- a find is the tuple of a name that stood since then, as the lookup reads it
pub record FindStood (setting : Setting) (history : List Happening) (event : ℕ) (pattern : Name) (f : Find)
    : Type 0 where
  pub tuple : Entry
  pub stood : Stood setting history event tuple
  pub is : f ≡ find_of pattern tuple

-- the newest lookup at an address that got an identifier
abbrev pub newest : List Begun → Address → ℕ → Option Begun
newest begun who id = find (λ b. same_address b.who who && (b.id == id)) begun

-- an open lookup is the newest of its identifier, and each of its finds stood since that began
pub record IsFound (setting : Setting) (history : List Happening) (who : Address) (s : Search) : Type 0 where
  pub begun : Begun
  pub newest : newest (after setting history).begun who s.id ≡ Some begun
  pub pattern : s.pattern ≡ asked begun.pattern
  pub stood : AllByRecursion (FindStood setting history begun.event s.pattern) s.finds

pub record FindsStood (setting : Setting) (history : List Happening) : Type 0 where
  -- the finds of each table of lookups match their patterns and differ
  pub lawful : (who : Address) → AreLookups ((after setting history).lookups who)
  pub found : (who : Address)
      → AllByRecursion (IsFound setting history who) ((after setting history).lookups who).searches

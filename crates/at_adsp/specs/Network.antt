-- A network of nodes with ends of streams, which open and close connections with each other. Each segment may come
-- late, again or never (Inside AppleTalk, ADSP, "Opening a connection").
use Rattle.std.specs.Prelude.{◌≡◌, ℕ, ◌+◌, ◌==◌, ◌&&◌, ◌||◌, not, nat_le, is_none, if◌then◌else◌, Bool, true, false}
use Rattle.std.specs.Prelude.{List, [], ◌∷◌, ◌++◌, find, take, replicate, Option, Some, None}
use Rattle.std.specs.Prelude.{Result, Ok, Err}
use Rattle.std.specs.List.{list_all}
use Rattle.at_ddp.specs.Tables.{replaced}
use Rattle.at_ddp.specs.Posts.{Post, Posts, packet_at, put, stamped}
use Rattle.at_ddp.specs.declared.address.Address.{Address}
use Rattle.at_adsp_frame.specs.Segments.{Content, Part, Open}
use Rattle.at_adsp_end.specs.Ends.{EndState, has_opened}
use Rattle.at_adsp_end.specs.Positions.{Numbers}
use Rattle.at_adsp_end.specs.declared.fault.StreamFault.{StreamFault}
use Rattle.at_adsp_end.specs.declared.item.Item.{Item}
use Rattle.at_adsp_end.specs.declared.remote.Remote.{Remote}
use Rattle.at_adsp_end.specs.declared.rooms.Rooms.{Rooms}
use Rattle.at_adsp_end.specs.declared.change.EndChange.TheVariants.{Made as made_step}
use Rattle.at_adsp_end.specs.declared.tick.Tick.{Tick}
use Rattle.at_adsp_ends.specs.Calls.{listened, connected, closed_at, ticked_at, read_at, reset_at, wrote}
use Rattle.at_adsp_ends.specs.Receiving.{received}
use Rattle.at_adsp_ends.specs.Tables.{EndTable, Done, no_ends, by_id, by_remote, next_id}
use Rattle.at_adsp.specs.Streams.{Stream, Deed, Nothing, Wrote, Read, GaveUp, has_number, written_after, read_after}

-- What never changes: what the numbers of segments are, the rooms of the ends at each address, and the addresses that
-- segments come to here. Whoever sends from other addresses may send anything.
pub record Setting : Type 0 where
  pub numbers : Numbers
  pub rooms : Address → Rooms
  pub ours : Address → Bool

-- An end that was ever made: as its users see it, and as it was last. When it got its remote, the newest end with that
-- number had this birth, if it was at one of our addresses.
pub record Made : Type 0 where
  pub stream : Stream
  pub last : EndState
  pub names : Option ℕ

-- a segment that was sent, with the event that sent it
abbrev pub Sent : Type 0
Sent = Post Content

pub record Network : Type 0 where
  pub event : ℕ  -- how many events there were
  pub tables : Address → EndTable  -- the ends at each address
  pub made : List Made  -- all ends that were ever made, newest first; a freed end is as it was last
  pub sent : Posts Content

-- before anything happened
abbrev pub opening : Setting → Network
opening setting = record { event = 0; tables = λ at. no_ends (setting.rooms at); made = []; sent = [] }

-- ---- all ends that were ever made

abbrev pub is_end : Address → ℕ → Made → Bool
is_end at id m = has_number at id m.stream

abbrev pub has_birth : ℕ → Made → Bool
has_birth birth m = m.stream.birth == birth

-- the newest end that got this identifier at this address
abbrev pub newest : List Made → Address → ℕ → Option Made
newest made at id = find (is_end at id) made

-- the end that this event made
abbrev pub born : List Made → ℕ → Option Made
born made birth = find (has_birth birth) made

abbrev pub birth_of : Option Made → Option ℕ
birth_of None = None
birth_of (Some m) = Some m.stream.birth

-- the birth of the newest end with the number of this remote, if that is at one of our addresses
abbrev pub named : Setting → List Made → Option Remote → Option ℕ
named setting made None = None
named setting made (Some r) = if setting.ours r.address then birth_of (newest made r.address r.id) else None

-- whom the end names: that is noted with its remote
abbrev pub names_now : Setting → List Made → EndState → Made → Option ℕ
names_now setting made e m = if is_none m.last.remote then named setting made e.remote else m.names

-- The end as it is now, and what its user did. Once it is open, whom it names is its peer.
abbrev pub noted_with : Deed → Setting → List Made → EndState → Made → Made
noted_with deed setting made e m = record {
  stream =
      record m.stream {
        peer = if has_opened e.phase then names_now setting made e m else None;
        written = written_after deed m.stream.written;
        read = read_after deed m.stream.read;
      };
  last = e;
  names = names_now setting made e m;
}

abbrev pub noted : Setting → List Made → EndState → Made → Made
noted setting made e m = noted_with Nothing setting made e m

-- an end that this event makes, before it has a remote
abbrev pub beginning : ℕ → Address → EndState → Made
beginning event at e = record {
  stream =
      record {
        birth = event;
        owner = at;
        id = e.id;
        listener = e.listener;
        asked = e.asked;
        peer = None;
        written = [];
        read = [];
      };
  last = record e { remote = None };
  names = None;
}

-- the newest end with this number is now so
abbrev pub changed : Deed → Setting → List Made → Address → EndState → Option Made → List Made
changed deed setting made at e None = made
changed deed setting made at e (Some m) = replaced (is_end at e.id) (noted_with deed setting made e m) made

-- Such an end is new where no end stands under its identifier. It may have its own number as its remote.
abbrev pub joined : Deed → Setting → ℕ → List Made → Address → EndState → Option EndState → List Made
joined deed setting event made at e None =
    noted setting (beginning event at e ∷ made) e (beginning event at e) ∷ made
joined deed setting event made at e (Some old) = changed deed setting made at e (newest made at e.id)

-- an end of this table was made or changed, or none
abbrev pub with_end : Deed → Setting → ℕ → List Made → Address → EndTable → Option EndState → List Made
with_end deed setting event made at t None = made
with_end deed setting event made at t (Some e) = joined deed setting event made at e (by_id t e.id)

-- ---- what happens

pub data Happening : Type 0 where
  -- an end is made that asks an address for a connection
  Connects : (at to : Address) → Happening
  -- requests for connections are answered from now on, or no more
  Listens : (at : Address) (on : Bool) → Happening
  -- an end is closed or freed
  Closes : (at : Address) (id : ℕ) → Happening
  -- items are written
  Writes : (at : Address) (id : ℕ) (items : List Item) → Happening
  -- at most so many items are read
  Reads : (at : Address) (id : ℕ) (count : ℕ) → Happening
  -- a stream is reset
  Resets : (at : Address) (id : ℕ) → Happening
  -- a timer of an end fires
  Ticks : (at : Address) (id : ℕ) (tick : Tick) → Happening
  -- a segment comes to the address that it was sent to
  Takes : (datagram : ℕ) → Happening
  -- a segment comes from an address that is not described here
  Strange : (at from : Address) (segment : Content) → Happening
  -- an event outside this network, which sends so many foreign datagrams
  Other : (count : ℕ) → Happening

-- what a call does at an address, and what the user of the end did
abbrev pub does_with : {X : Type 0} → Deed → Setting → Network → Address → Done X → Network
does_with deed setting n at d = record n {
  tables = put n.tables at d.after;
  made = with_end deed setting n.event n.made at (n.tables at) d.changed;
  sent = n.sent ++ stamped n.event at d.sent;
}

-- what another call, a tick or a segment does at an address
abbrev pub does : {X : Type 0} → Setting → Network → Address → Done X → Network
does setting n at d = does_with Nothing setting n at d

-- A call that is refused does nothing. The answer of another tells what the user did.
abbrev pub calls_with : {X : Type 0} → (X → Deed) → Setting → Network → Address → Result (Done X) StreamFault → Network
calls_with deed setting n at (Err fault) = n
calls_with deed setting n at (Ok d) = does_with (deed d.answer) setting n at d

abbrev pub calls : {X : Type 0} → Setting → Network → Address → Result (Done X) StreamFault → Network
calls setting n at r = calls_with (λ answer. Nothing) setting n at r

-- as many of these items are written as the answer says
abbrev pub wrote_first : List Item → ℕ → Deed
wrote_first items count = Wrote (take count items)

-- a reset has no answer
abbrev pub gave_up : Unit {0} → Deed
gave_up answer = GaveUp

abbrev pub listens : Network → Address → Bool → Network
listens n at on = record n { tables = put n.tables at (listened (n.tables at) on) }

-- a segment comes from an address
abbrev pub hears : Setting → Network → Address → Address → Content → Network
hears setting n at from s = does setting n at (received setting.numbers (n.tables at) from s)

abbrev pub takes : Setting → Network → Option Sent → Network
takes setting n None = n
takes setting n (Some s) = hears setting n s.to s.from s.packet

abbrev pub done : Setting → Network → Happening → Network
done setting n (Connects at to) = calls setting n at (connected (n.tables at) to (next_id (n.tables at)))
done setting n (Listens at on) = listens n at on
done setting n (Closes at id) = calls setting n at (closed_at setting.numbers (n.tables at) (by_id (n.tables at) id))
done setting n (Writes at id items) =
    calls_with (wrote_first items) setting n at (wrote setting.numbers (n.tables at) items (by_id (n.tables at) id))
done setting n (Reads at id count) =
    calls_with Read setting n at (read_at setting.numbers (n.tables at) count (by_id (n.tables at) id))
done setting n (Resets at id) =
    calls_with gave_up setting n at (reset_at setting.numbers (n.tables at) (by_id (n.tables at) id))
done setting n (Ticks at id tick) =
    calls setting n at (ticked_at setting.numbers (n.tables at) tick (by_id (n.tables at) id))
done setting n (Takes datagram) = takes setting n (packet_at n.sent datagram)
done setting n (Strange at from segment) = hears setting n at from segment
done setting n (Other count) = record n { sent = n.sent ++ replicate count None }

-- one event more
abbrev pub tick : Network → Network
tick n = record n { event = n.event + 1 }

-- the network after a history, whose newest happening comes first
abbrev pub after : Setting → List Happening → Network
after setting [] = opening setting
after setting (h ∷ hs) = tick (done setting (after setting hs) h)

-- ---- histories in which no segment outlives its identifiers

-- the end has another number, or was made no later than in this event
abbrev pub is_no_later : ℕ → Address → ℕ → Made → Bool
is_no_later event at id m = not (is_end at id m) || nat_le m.stream.birth event

-- no event after this one drew this identifier at this address; 0 is the identifier of no end
abbrev pub is_kept : List Made → ℕ → Address → ℕ → Bool
is_kept made event at id = (id == 0) || list_all (is_no_later event at id) made

-- the identifier that a segment gives its destination, or 0
abbrev pub dest_of : Part → ℕ
dest_of (Open kind dest) = dest
dest_of other = 0

-- no event after the one that sent a segment drew an identifier that it carries
abbrev pub is_fresh : List Made → Sent → Bool
is_fresh made s =
    is_kept made s.event s.from s.packet.source && is_kept made s.event s.to (dest_of s.packet.body)

-- no end that stands has the end with this number as its remote
abbrev pub NoneNames : Network → Address → ℕ → Type 0
NoneNames n at id = (there : Address) → by_remote (n.tables there) (record { address = at; id = id }) ≡ None

-- an end that a segment makes here gets a number that no end has as its remote
abbrev pub MakesInTime : Setting → Network → Address → Address → Content → Type 0
MakesInTime setting n at from s =
    (id : ℕ) → (received setting.numbers (n.tables at) from s).answer ≡ made_step id → NoneNames n at id

-- Each segment comes to one of our addresses before its identifiers are drawn again. No number is drawn that an end has
-- as its remote. Other segments come from other addresses.
abbrev pub IsTimely : Setting → Network → Happening → Type 0
IsTimely setting n (Connects at to) = (id : ℕ) → next_id (n.tables at) ≡ Some id → NoneNames n at id
IsTimely setting n (Takes datagram) =
    (s : Sent) → packet_at n.sent datagram ≡ Some s
    → (setting.ours s.to ≡ true) × (is_fresh n.made s ≡ true) × MakesInTime setting n s.to s.from s.packet
IsTimely setting n (Strange at from segment) =
    (setting.ours at ≡ true) × (setting.ours from ≡ false) × MakesInTime setting n at from segment
IsTimely setting n other = Unit {0}

abbrev pub AllTimely : Setting → List Happening → Type 0
AllTimely setting [] = Unit {0}
AllTimely setting (h ∷ hs) = IsTimely setting (after setting hs) h × AllTimely setting hs

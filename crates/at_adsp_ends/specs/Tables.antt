-- The ends of a node's streams (Inside AppleTalk, ADSP, "Connection identifiers").
use Rattle.std.specs.Prelude.{ℕ, ◌+◌, ◌%◌, ◌≤◌, ◌<◌, ◌==◌, ◌&&◌, nat_lt, if◌then◌else◌, Bool, false}
use Rattle.std.specs.Prelude.{List, [], ◌∷◌, ◌++◌, length, find, Option, Some, None}
use Rattle.std.specs.List.{AllByRecursion, IsDistinct, list_any}
use Rattle.at_ddp.specs.Tables.{replaced, without_first}
use Rattle.at_ddp.specs.declared.address.Address.{Address}
use Rattle.at_ddp.specs.Numbers.{first_free}
use Rattle.at_adsp_frame.specs.Segments.{Content}
use Rattle.at_adsp_end.specs.Ends.{EndState, addressed, has_remote}
use Rattle.at_adsp_end.specs.declared.remote.Remote.{Remote}
use Rattle.at_adsp_end.specs.declared.rooms.Rooms.{Rooms}

-- whether requests for connections are answered, the identifier to try next, the rooms of each end, and the ends that
-- stand, in the order in which they were made
pub record EndTable : Type 0 where
  pub listening : Bool
  pub next : ℕ
  pub rooms : Rooms
  pub ends : List EndState

abbrev pub no_ends : Rooms → EndTable
no_ends rooms = record { listening = false; next = 1; rooms = rooms; ends = [] }

abbrev pub has_id : ℕ → EndState → Bool
has_id id e = e.id == id

-- the end with this identifier
abbrev pub by_id : EndTable → ℕ → Option EndState
by_id t id = find (has_id id) t.ends

-- the end that is connected to this one, or is about to be
abbrev pub by_remote : EndTable → Remote → Option EndState
by_remote t r = find (has_remote r) t.ends

-- the remote has this identifier at a node with this number
abbrev pub is_at : ℕ → ℕ → Option Remote → Bool
is_at node id None = false
is_at node id (Some r) = (r.address.node == node) && (r.id == id)

abbrev pub has_remote_at : ℕ → ℕ → EndState → Bool
has_remote_at node id e = is_at node id e.remote

-- ---- identifiers

-- identifiers are 1 to 65,535, and go round
abbrev pub following : ℕ → ℕ
following id = id % 65535 + 1

-- the first identifier from this one on that no end has, if it takes at most so many tries
abbrev pub free_id : ℕ → ℕ → List EndState → Option ℕ
free_id tries first ends = first_free following (λ id. list_any (has_id id) ends) tries first

-- the identifier of the next end; none if 16 stand
abbrev pub next_id : EndTable → Option ℕ
next_id t = if nat_lt (length t.ends) 16 then free_id (length t.ends + 1) t.next t.ends else None

-- ---- what becomes of an end

abbrev pub with_end : EndTable → EndState → EndTable
with_end t e = record t { next = following e.id; ends = t.ends ++ e ∷ [] }

abbrev pub with_changed : EndTable → EndState → EndTable
with_changed t e = record t { ends = replaced (has_id e.id) e t.ends }

abbrev pub without_end : EndTable → ℕ → EndTable
without_end t id = record t { ends = without_first (has_id id) t.ends }

-- what came of a call, a tick or a segment: the answer, the table after it, the one end that was made or changed, as it
-- is then, and what is sent
pub record Done (X : Type 0) : Type 0 where
  pub answer : X
  pub after : EndTable
  pub changed : Option EndState
  pub sent : List (Address × Content)

-- no more segments are sent than the queues of one end have room for items, twice
abbrev pub SendsFew : {X : Type 0} → Done X → Type 0
SendsFew d = length d.sent ≤ 131070

-- an end was made
abbrev pub made : {X : Type 0} → EndTable → X → EndState → List Content → Done X
made t answer e sent =
    record { answer = answer; after = with_end t e; changed = Some e; sent = addressed e.asked sent }

-- an end changed
abbrev pub moved : {X : Type 0} → EndTable → X → EndState → List Content → Done X
moved t answer e sent =
    record { answer = answer; after = with_changed t e; changed = Some e; sent = addressed e.asked sent }

-- an end sends, and does not change
abbrev pub stayed : {X : Type 0} → EndTable → X → EndState → List Content → Done X
stayed t answer e sent = record { answer = answer; after = t; changed = None; sent = addressed e.asked sent }

-- an end is freed
abbrev pub freed : {X : Type 0} → EndTable → X → EndState → Done X
freed t answer e = record { answer = answer; after = without_end t e.id; changed = None; sent = [] }

-- ---- what holds of every table

abbrev pub shares : Option Remote → EndState → Bool
shares None e = false
shares (Some r) e = has_remote r e

-- no two ends are connected to one end
abbrev pub RemotesDiffer : List EndState → Type 0
RemotesDiffer ends = IsDistinct (λ a b. shares a.remote b) ends

abbrev pub IdsDiffer : List EndState → Type 0
IdsDiffer ends = IsDistinct (λ a b. has_id a.id b) ends

-- an identifier is 1 to 65,535
pub record IsId (id : ℕ) : Type 0 where
  pub some : 1 ≤ id
  pub fits : id < 65536

-- each room holds 1 to 65,535 items
pub record AreRooms (rooms : Rooms) : Type 0 where
  pub receive : 1 ≤ rooms.receive
  pub receive_fits : rooms.receive < 65536
  pub send : 1 ≤ rooms.send
  pub send_fits : rooms.send < 65536

-- at most 16 ends stand, under identifiers that differ, and no two of them have one remote
pub record AreEnds (t : EndTable) : Type 0 where
  pub few : length t.ends ≤ 16
  pub next : IsId t.next
  pub rooms : AreRooms t.rooms
  pub ids : AllByRecursion (λ e. IsId e.id) t.ends
  pub ids_differ : IdsDiffer t.ends
  pub remotes_differ : RemotesDiffer t.ends

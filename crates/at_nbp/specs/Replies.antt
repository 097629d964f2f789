-- The replies to a lookup (Inside AppleTalk, NBP, "Name lookup").
use Rattle.std.specs.Prelude.{◌≡◌, ℕ, ◌+◌, ◌<◌, ◌≤◌, ◌⊎◌, List, [], ◌∷◌, length, map, take, drop}
use Rattle.std.specs.List.{filter, flat_map}
use Rattle.at_ddp.specs.Outbox.{Outbox}
use Rattle.at_ddp.specs.Sending.{Sends}
use Rattle.at_ddp.specs.declared.address.Address.{Address}
use Rattle.at_nbp.specs.NameTables.{Table}
use Rattle.at_nbp.specs.Names.{is_match}
use Rattle.at_nbp.specs.Packets.{spelling}
use Rattle.at_nbp.specs.Tuples.{Entry, tuple_spelling}
use Rattle.at_nbp.specs.declared.function.Function.TheVariants.{Reply}
use Rattle.at_nbp.specs.declared.name.Name.{Name}
use Rattle.at_nbp.specs.declared.names.Registered.{Registered}

-- a name of the table, in the node's zone
abbrev pub name_in : Table → Registered → Name
name_in table r = record { object = r.object; kind = r.kind; zone = table.zone }

-- the same, with the address of its socket
abbrev pub entry_in : Table → Registered → Entry
entry_in table r = record {
  address = record { net = table.own.net; node = table.own.node; socket = r.socket };
  enumerator = r.enumerator;
  object = r.object;
  kind = r.kind;
  zone = table.zone;
}

-- the pattern of a lookup's tuple
abbrev pub pattern_of : Entry → Name
pattern_of t = record { object = t.object; kind = t.kind; zone = t.zone }

-- the names that match a pattern, in the order in which they were registered
abbrev pub matching : Table → Name → List Entry
matching table pattern =
    map (entry_in table) (filter (λ r. is_match pattern (name_in table r)) table.names)

-- how many bytes a packet has for these tuples, after the two bytes of its header
abbrev pub size_of : List Entry → ℕ
size_of entries = 2 + length (flat_map tuple_spelling entries)

-- so many of the tuples go into the next reply: as many as fit, at most 15
pub record IsFull (entries : List Entry) (count : ℕ) : Type 0 where
  pub some : 0 < count
  pub few : count ≤ 15
  pub within : count ≤ length entries
  pub fits : size_of (take count entries) ≤ 586
  pub full : (count ≡ length entries) ⊎ ((count ≡ 15) ⊎ (586 < size_of (take (count + 1) entries)))

-- the tuples in replies, each of which is full
abbrev pub AreReplies : List Entry → List (List Entry) → Type 0
AreReplies entries [] = entries ≡ []
AreReplies entries (reply ∷ replies) =
    IsFull entries (length reply) × (reply ≡ take (length reply) entries)
    × AreReplies (drop (length reply) entries) replies

-- a reply to a lookup, as it is sent to the socket that asked
abbrev pub sent_reply : ℕ → Address → List Entry → Address × List ℕ
sent_reply id to reply = (to, spelling (record { function = Reply; id = id; tuples = reply }))

-- the tuples were sent in full replies, and nothing else was
pub record Answers (entries : List Entry) (id : ℕ) (to : Address) (old new : Outbox) : Type 0 where
  pub replies : List (List Entry)
  pub full : AreReplies entries replies
  pub sends : Sends old new (map (sent_reply id to) replies)

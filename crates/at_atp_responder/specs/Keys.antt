-- The keys of a responder's records: each request has one record at most (Inside AppleTalk, ATP, "At-least-once and
-- exactly-once transactions").
use Rattle.std.specs.Prelude.{ℕ, ◌+◌, ◌*◌, List, map}
use Rattle.std.specs.List.{IsDistinct}
use Rattle.at_table.specs.Rows.{AreKeyed, Rows}
use Rattle.at_atp_responder.specs.Once.{same_key}
use Rattle.at_atp_responder.specs.Records.{Record}
use Rattle.at_atp_responder.specs.declared.reception.Key.{Key}

-- what a record is found by
abbrev pub key_of : Record → Key
key_of r = r.key

-- no two records are of one request
abbrev pub AreApart : List Record → Type 0
AreApart rs = IsDistinct same_key (map key_of rs)

-- each record of a table is found by its own key, and no two have one key
pub record AreFiled (t : Rows Key Record) : Type 0 where
  pub keyed : AreKeyed key_of t
  pub apart : AreApart t.items

-- all fields of a key in one number, by which it is hashed
abbrev pub packed : Key → ℕ
packed key = (key.from.net * 65536 + key.from.node * 256 + key.from.socket) * 65536 + key.tid

-- How a node finds its ends: by identifier in a table, and by remote in an index beside it (Inside AppleTalk, ADSP,
-- "Connection identifiers"). No clause of a public function cites this module.
use Rattle.std.specs.Prelude.{◌≡◌, ℕ, ◌≤◌, ◌==◌, ◌&&◌, is_none, true, Bool, Option, None, find, option_map, count_by}
use Rattle.std.specs.List.{AllByRecursion}
use Rattle.indexmap.specs.IndexMap.{IndexMap, get}
use Rattle.at_ddp.specs.declared.address.Address.{Address}
use Rattle.at_table.specs.Rows.{AreKeyed, Rows}
use Rattle.at_adsp_end.specs.Ends.{EndState, has_remote, is_opening}
use Rattle.at_adsp_end.specs.declared.remote.Remote.{Remote}

-- what an end is found by in the table
abbrev pub id_of : EndState → ℕ
id_of e = e.id

-- keys of the index are equal: the same socket of the same node, and the same identifier there
abbrev pub same_key : Address × ℕ → Address × ℕ → Bool
same_key a b =
    ((a.0.net == b.0.net) && ((a.0.node == b.0.node) && (a.0.socket == b.0.socket))) && (a.1 == b.1)

-- the identifier that the index has under a remote
abbrev pub named : {S : Type 0} → IndexMap (Address × ℕ) ℕ S → Remote → Option ℕ
named index r = get same_key index (r.address, r.id)

-- the other end is not known yet
abbrev pub has_no_remote : EndState → Bool
has_no_remote e = is_none e.remote

-- Each end is in the table under its identifier. The index has the identifier of an end under its remote, and nothing
-- under a remote that no end has. There is room in it for each end without a remote. An end that waits for the answer
-- to its request is one of these, and gets its remote by the answer.
pub record AreFiled (t : Rows ℕ EndState) (id_under : Remote → Option ℕ) (room : ℕ) : Type 0 where
  pub keyed : AreKeyed id_of t
  pub by_remote : (r : Remote) → id_under r ≡ option_map id_of (find (has_remote r) t.items)
  pub fits : count_by has_no_remote t.items ≤ room
  pub asking : AllByRecursion (λ e. is_opening e.phase ≡ true → e.remote ≡ None) t.items

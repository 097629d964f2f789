-- How a table lies in its index and its slab. No clause of a public function cites this module.
use Rattle.std.specs.Prelude.{◌≡◌, ℕ, ◌-◌, min, nat_eq, true, List, filter_map, Option, IsSome}
use Rattle.std.specs.List.{AllByRecursion, IsDistinct, list_any}
use Rattle.indexmap.specs.IndexMap.{IndexMap, keys, values, spare}
use Rattle.slab.specs.Slab.{Slab, get, slab_len}
use Rattle.at_table.specs.Rows.{Rows}

-- Index and slab agree both ways: each place in the index has a value, no two keys have one place, and each place that
-- has a value is in the index.
pub record Agree {V : Type 0} (at : ℕ → Option V) (places : List ℕ) : Type 0 where
  pub filled : AllByRecursion (λ p. IsSome (at p)) places
  pub apart : IsDistinct nat_eq places
  pub named : (p : ℕ) → IsSome (at p) → list_any (nat_eq p) places ≡ true

-- how many more entries fit in both
abbrev pub room_of : {K V S : Type 0} → IndexMap K ℕ S → Slab V → ℕ
room_of index slab = min (spare index) (slab.capacity - slab_len slab)

-- the keys in the order of the index, and the value at the place of each
abbrev pub rows_of : {K V S : Type 0} → IndexMap K ℕ S → Slab V → Rows K V
rows_of index slab = record {
  keys = keys index;
  items = filter_map (get slab) (values index);
  room = room_of index slab;
}

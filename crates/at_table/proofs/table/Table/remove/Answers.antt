use Rattle.at_table.proofs.KeyedLemmas.{keyed_remove}
use Rattle.at_table.proofs.TableLemmas.{contains, place_taken, shrinks, taken, value_at, within}
use Rattle.at_table.proofs.table.Table.remove.Goals as goal

pub unwrap-key-requires : goal.unwrap-key-requires
unwrap-key-requires g c = taken c.self.inside.index c.args.index c.shift_remove_index.result
    (within c.self.inside.index c.self.inside.slab c.self.invariant c.args.index
    (rw (← c.self.view_is) at c.requires)) c.shift_remove_index.ensures.entry

pub remove-requires : goal.remove-requires
remove-requires g c =
    let place = place_taken c.self.inside.index c.args.index c.unwrap-key.result c.shift_remove_index.result
    c.shift_remove_index.ensures.entry c.unwrap-key.ensures in
    contains c.self.inside.index c.self.inside.slab c.self.invariant c.args.index c.unwrap-key.result.1 place

pub invariant_of-self : goal.invariant_of-self
invariant_of-self g c =
    let place = place_taken c.self.inside.index c.args.index c.unwrap-key.result c.shift_remove_index.result
    c.shift_remove_index.ensures.entry c.unwrap-key.ensures in
    (shrinks c.self.inside.index c.self.inside.slab c.self.invariant c.args.index c.unwrap-key.result.1 place
    c.shift_remove_index.new.self c.remove.new.self c.shift_remove_index.ensures.entries c.remove.ensures.updates).agree

pub returns-clause-value : goal.returns-clause-value
returns-clause-value g c =
    let place = place_taken c.self.inside.index c.args.index c.unwrap-key.result c.shift_remove_index.result
    c.shift_remove_index.ensures.entry c.unwrap-key.ensures in
    rw (← c.self.view_is) (value_at c.self.inside.index c.self.inside.slab c.self.invariant c.args.index
    c.unwrap-key.result.1 place c.remove.result c.remove.ensures.value)

pub returns-clause-keys : goal.returns-clause-keys
returns-clause-keys g c =
    let place = place_taken c.self.inside.index c.args.index c.unwrap-key.result c.shift_remove_index.result
    c.shift_remove_index.ensures.entry c.unwrap-key.ensures in
    let s = shrinks c.self.inside.index c.self.inside.slab c.self.invariant c.args.index c.unwrap-key.result.1 place
    c.shift_remove_index.new.self c.remove.new.self c.shift_remove_index.ensures.entries c.remove.ensures.updates in
    rw (← c.self.view_is) s.keys_are

pub returns-clause-items : goal.returns-clause-items
returns-clause-items g c =
    let place = place_taken c.self.inside.index c.args.index c.unwrap-key.result c.shift_remove_index.result
    c.shift_remove_index.ensures.entry c.unwrap-key.ensures in
    let s = shrinks c.self.inside.index c.self.inside.slab c.self.invariant c.args.index c.unwrap-key.result.1 place
    c.shift_remove_index.new.self c.remove.new.self c.shift_remove_index.ensures.entries c.remove.ensures.updates in
    rw (← c.self.view_is) s.items_are

pub returns-clause-keyed : goal.returns-clause-keyed
returns-clause-keyed g c =
    let place = place_taken c.self.inside.index c.args.index c.unwrap-key.result c.shift_remove_index.result
    c.shift_remove_index.ensures.entry c.unwrap-key.ensures in
    let s = shrinks c.self.inside.index c.self.inside.slab c.self.invariant c.args.index c.unwrap-key.result.1 place
    c.shift_remove_index.new.self c.remove.new.self c.shift_remove_index.ensures.entries c.remove.ensures.updates in
    rw (← c.self.view_is) (λ key_of keyed. keyed_remove key_of _ _ _ _ c.args.index s.keys_are s.items_are keyed)

use Rattle.at_table.proofs.KeyedLemmas.{keyed_push}
use Rattle.at_table.proofs.TableLemmas.{grows}
use Rattle.at_table.proofs.table.Table.push.Goals as goal

pub invariant_of-self : goal.invariant_of-self
invariant_of-self g c =
    (grows c.self.inside.index c.self.inside.slab c.self.invariant g.K.PartialEq.eq c.args.key
    c.insert_reserved-place.result c.args.value c.insert.new.self c.insert_reserved-place.new.self
    (rw (← c.self.view_is) at c.requires.fresh) (rw c.unwrap.ensures at c.insert.ensures.entries)
    c.insert_reserved-place.ensures.was_vacant c.insert_reserved-place.ensures.updates).agree

pub returns-clause-keys : goal.returns-clause-keys
returns-clause-keys g c =
    let s = grows c.self.inside.index c.self.inside.slab c.self.invariant g.K.PartialEq.eq c.args.key
    c.insert_reserved-place.result c.args.value c.insert.new.self c.insert_reserved-place.new.self
    (rw (← c.self.view_is) at c.requires.fresh) (rw c.unwrap.ensures at c.insert.ensures.entries)
    c.insert_reserved-place.ensures.was_vacant c.insert_reserved-place.ensures.updates in
    rw (← c.self.view_is) s.keys_are

pub returns-clause-items : goal.returns-clause-items
returns-clause-items g c =
    let s = grows c.self.inside.index c.self.inside.slab c.self.invariant g.K.PartialEq.eq c.args.key
    c.insert_reserved-place.result c.args.value c.insert.new.self c.insert_reserved-place.new.self
    (rw (← c.self.view_is) at c.requires.fresh) (rw c.unwrap.ensures at c.insert.ensures.entries)
    c.insert_reserved-place.ensures.was_vacant c.insert_reserved-place.ensures.updates in
    rw (← c.self.view_is) s.items_are

pub returns-clause-keyed : goal.returns-clause-keyed
returns-clause-keyed g c =
    let s = grows c.self.inside.index c.self.inside.slab c.self.invariant g.K.PartialEq.eq c.args.key
    c.insert_reserved-place.result c.args.value c.insert.new.self c.insert_reserved-place.new.self
    (rw (← c.self.view_is) at c.requires.fresh) (rw c.unwrap.ensures at c.insert.ensures.entries)
    c.insert_reserved-place.ensures.was_vacant c.insert_reserved-place.ensures.updates in
    rw (← c.self.view_is)
    (λ key_of keyed same. keyed_push key_of _ _ _ _ c.args.key c.args.value s.keys_are s.items_are keyed same)

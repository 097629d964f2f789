use Rattle.at_table.proofs.TableLemmas.{within, contains, value_at}
use Rattle.at_table.proofs.table.Table.at.Goals as goal

pub index-place-requires : goal.index-place-requires
index-place-requires g c = within c.self.inside.index c.self.inside.slab c.self.invariant c.args.index
    (rw (← c.self.view_is) at c.requires)

pub index-requires : goal.index-requires
index-requires g c = contains c.self.inside.index c.self.inside.slab c.self.invariant c.args.index
    c.index-place.result.now c.index-place.ensures

pub returns : goal.returns
returns g c = rw (← c.self.view_is)
    (value_at c.self.inside.index c.self.inside.slab c.self.invariant c.args.index c.index-place.result.now
    c.index-place.ensures c.index.result.now c.index.ensures)

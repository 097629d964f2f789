use Rattle.std.proofs.Common.{refl, ap, ◌∙◌}
use Rattle.at_table.specs.Rows.{with_item}
use Rattle.at_table.proofs.KeyedLemmas.{keys_set}
use Rattle.at_table.proofs.TableLemmas.{within, contains, value_at, agree_written, rows_written}
use Rattle.at_table.proofs.table.Table.at_mut.Goals as goal

pub index-place-requires : goal.index-place-requires
index-place-requires g c = within c.self.inside.index c.self.inside.slab c.self.invariant c.args.index
    (rw (← c.self.view_is) at c.requires)

pub index_mut-requires : goal.index_mut-requires
index_mut-requires g c = contains c.self.inside.index c.self.inside.slab c.self.invariant c.args.index
    c.index-place.result.now c.index-place.ensures

pub invariant_of-self-lent : goal.invariant_of-self-lent
invariant_of-self-lent g c w = agree_written c.self.inside.index c.self.inside.slab c.self.invariant c.args.index
    c.index-place.result.now c.index-place.ensures w

pub returns : goal.returns
returns g c = (
  (
    refl,
    λ w. rows_written c.self.inside.index c.self.inside.slab c.self.invariant c.args.index
        c.index-place.result.now c.index-place.ensures w ∙ ap (λ r. with_item r c.args.index w) c.self.view_is,
  ),
  record {
    writes_back = tt;
    value = rw (← c.self.view_is)
        (value_at c.self.inside.index c.self.inside.slab c.self.invariant c.args.index c.index-place.result.now
        c.index-place.ensures c.index_mut.result.now c.index_mut.ensures.value);
    keyed = rw (← c.self.view_is) (λ key_of keyed now same. keyed ∙ keys_set key_of _ c.args.index
        c.index_mut.result.now now (value_at c.self.inside.index c.self.inside.slab c.self.invariant c.args.index
        c.index-place.result.now c.index-place.ensures c.index_mut.result.now c.index_mut.ensures.value) same);
  },
)

use Rattle.std.proofs.Common.{sym, ◌∙◌}
use Rattle.std.proofs.lemmas.List.{length-map}
use Rattle.at_table.proofs.PlaceLemmas.{length-held}
use Rattle.slab.specs.Slab.{get}
use Rattle.indexmap.specs.IndexMap.{values}
use Rattle.at_table.proofs.table.Table.len.Goals as goal

pub returns-clause-items : goal.returns-clause-items
returns-clause-items g c = rw
    (← c.self.view_is, length-held (get c.self.inside.slab) (values c.self.inside.index) c.self.invariant.filled)
    (c.len.ensures.len ∙ sym (length-map c.self.inside.index.entries (λ e. e.1)))

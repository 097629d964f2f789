use Rattle.std.proofs.lemmas.List.{length-map}
use Rattle.std.proofs.Common.{sym, ap, ◌∙◌, arith}
use Rattle.std.proofs.lemmas.Iterator.Adapters.{position_from-zero}
use Rattle.std.proofs.lemmas.Option.{IfSome_then}
use Rattle.indexmap.specs.IndexMap.{keys}
use Rattle.std.specs.List.{position_from}
use Rattle.at_table.proofs.KeyedLemmas.{position_of}
use Rattle.at_table.proofs.TableLemmas.{as_many}
use Rattle.at_table.proofs.table.Table.index_of.Goals as goal

pub returns-clause-first : goal.returns-clause-first
returns-clause-first g c = rw (← c.self.view_is) (c.get_index_of.ensures.index
    ∙ position_from-zero (g.K.PartialEq.eq c.args.key.now) (keys c.self.inside.index))

pub returns-clause-within : goal.returns-clause-within
returns-clause-within g c = rw (← c.self.view_is)
    (IfSome_then c.get_index_of.result c.get_index_of.ensures.within
    (λ i h. omega (arith, h, as_many c.self.inside.index c.self.inside.slab c.self.invariant)))

pub returns-clause-beside : goal.returns-clause-beside
returns-clause-beside g c = rw (← c.self.view_is) (as_many c.self.inside.index c.self.inside.slab c.self.invariant
    ∙ sym (length-map c.self.inside.index.entries (λ e. e.0)))

pub returns-clause-apart : goal.returns-clause-apart
returns-clause-apart g c = rw (← c.self.view_is) c.get_index_of.ensures.unique

pub returns-clause-keyed : goal.returns-clause-keyed
returns-clause-keyed g c = rw (← c.self.view_is) (λ key_of test keyed same. c.get_index_of.ensures.index
    ∙ position_from-zero (g.K.PartialEq.eq c.args.key.now) (keys c.self.inside.index)
    ∙ ap (position_from (g.K.PartialEq.eq c.args.key.now) 0) keyed
    ∙ position_of key_of (g.K.PartialEq.eq c.args.key.now) test same 0 _)

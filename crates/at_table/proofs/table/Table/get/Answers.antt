use Rattle.std.proofs.Common.{refl, sym, ap, slice_get, ◌∙◌, zero-add}
use Rattle.at_table.specs.Rows.{found}
use Rattle.at_table.proofs.KeyedLemmas.{value_of}
use Rattle.at_table.proofs.TableLemmas.{found_at, not_found}
use Rattle.at_table.proofs.table.Table.get.Goals as goal

pub returns-in_err-index-clause-first : goal.returns-in_err-index-clause-first
returns-in_err-index-clause-first g c = rw (
  c.from_residual.ensures,
  not_found (g.K.PartialEq.eq c.args.key.now) 0 c.args.self.now.keys c.args.self.now.items
      (sym c.index_of.ensures.first ∙ c.in_err-index.was),
) refl

pub returns-in_err-index-clause-keyed : goal.returns-in_err-index-clause-keyed
returns-in_err-index-clause-keyed g c = λ key_of test keyed same. rw (c.from_residual.ensures)
    (sym (not_found (g.K.PartialEq.eq c.args.key.now) 0 c.args.self.now.keys c.args.self.now.items
    (sym c.index_of.ensures.first ∙ c.in_err-index.was))
    ∙ ap (λ ks. found (g.K.PartialEq.eq c.args.key.now) ks c.args.self.now.items) keyed
    ∙ value_of key_of (g.K.PartialEq.eq c.args.key.now) test same c.args.self.now.items)

pub returns-clause-first : goal.returns-clause-first
returns-clause-first g c =
    let f = found_at (g.K.PartialEq.eq c.args.key.now) 0 c.args.self.now.keys c.args.self.now.items
    c.in_ok-index.index c.index_of.ensures.beside (sym c.index_of.ensures.first ∙ c.in_ok-index.was) in
    sym (f.2 ∙ ap (slice_get c.args.self.now.items) (sym (f.1 ∙ zero-add f.0)) ∙ c.at.ensures)

pub returns-clause-keyed : goal.returns-clause-keyed
returns-clause-keyed g c = λ key_of test keyed same.
    let f = found_at (g.K.PartialEq.eq c.args.key.now) 0 c.args.self.now.keys c.args.self.now.items
    c.in_ok-index.index c.index_of.ensures.beside (sym c.index_of.ensures.first ∙ c.in_ok-index.was) in
    sym (f.2 ∙ ap (slice_get c.args.self.now.items) (sym (f.1 ∙ zero-add f.0)) ∙ c.at.ensures)
    ∙ ap (λ ks. found (g.K.PartialEq.eq c.args.key.now) ks c.args.self.now.items) keyed
    ∙ value_of key_of (g.K.PartialEq.eq c.args.key.now) test same c.args.self.now.items

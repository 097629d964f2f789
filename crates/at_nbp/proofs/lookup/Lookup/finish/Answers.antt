use Rattle.std.proofs.Common.{◌≡◌, Some, None, sym, ap, subst, ◌∙◌, arith}
use Rattle.std.specs.Prelude.{find}
use Rattle.at_ddp.proofs.TableLemmas.{found_by, none_by}
use Rattle.at_nbp.specs.Lookups.{AreLookups, Lookups, closed, has_id}
use Rattle.at_nbp.proofs.LookupLaws.{closed_lawful}
use Rattle.at_nbp.proofs.NameTableLemmas.{none_found, some_found}
use Rattle.at_nbp.proofs.lookup.Lookup.finish.Goals as goal

pub returns-in_default-clause-found : goal.returns-in_default-clause-found
returns-in_default-clause-found g c =
    let p = has_id c.args.id in
    let none = none_by p c.self.inside.searches.items c.deref.result.now c.index_of.result c.deref.ensures.value
    c.index_of.ensures c.in_default.is in
    none_found p c.args.self.now.searches (subst (λ (l : Lookups). find p l.searches ≡ None) c.self.view_is none)

pub remove-requires : goal.remove-requires
remove-requires g c =
    let p = has_id c.args.id in
    let found = found_by p c.self.inside.searches.items c.deref.result.now c.index_of.result c.in-Some.index
    c.deref.ensures.value c.index_of.ensures c.in-Some.is in
    omega (arith, c.self.inside.searches.ok.0, found.within)

pub invariant_of-self : goal.invariant_of-self
invariant_of-self g c =
    let p = has_id c.args.id in
    let l : Lookups = record {
      own = c.self.inside.own;
      to = c.self.inside.to;
      function = c.self.inside.function;
      next = c.self.inside.next;
      searches = c.self.inside.searches.items;
    } in
    let found = found_by p l.searches c.deref.result.now c.index_of.result c.in-Some.index c.deref.ensures.value
    c.index_of.ensures c.in-Some.is in
    subst (λ searches. AreLookups (record l { searches = searches }))
    (sym (c.remove.ensures.items ∙ sym found.gone_is)) (closed_lawful l c.args.id c.self.invariant)

pub returns-clause-ok : goal.returns-clause-ok
returns-clause-ok g c =
    let p = has_id c.args.id in
    let l : Lookups = record {
      own = c.self.inside.own;
      to = c.self.inside.to;
      function = c.self.inside.function;
      next = c.self.inside.next;
      searches = c.self.inside.searches.items;
    } in
    let found = found_by p l.searches c.deref.result.now c.index_of.result c.in-Some.index c.deref.ensures.value
    c.index_of.ensures c.in-Some.is in
    ap (λ searches. record l { searches = searches }) (c.remove.ensures.items ∙ sym found.gone_is)
    ∙ ap (λ k. closed k c.args.id) c.self.view_is

pub returns-clause-found : goal.returns-clause-found
returns-clause-found g c =
    let p = has_id c.args.id in
    let found = found_by p c.self.inside.searches.items c.deref.result.now c.index_of.result c.in-Some.index
    c.deref.ensures.value c.index_of.ensures c.in-Some.is in
    some_found p c.args.self.now.searches found.entry
    (subst (λ (l : Lookups). find p l.searches ≡ Some found.entry) c.self.view_is found.first)

use Rattle.std.proofs.Common.{◌≡◌, false, List, None, sym, ap, subst, ◌∙◌}
use Rattle.std.specs.List.{list_any}
use Rattle.std.specs.Map.{values_of}
use Rattle.indexmap.specs.IndexMap.{values}
use Rattle.at_nbp.specs.NameTables.{AreNames, IsLeastFree, Table, has_number, register_fault}
use Rattle.at_nbp.specs.declared.names.Registered.{Registered}
use Rattle.at_nbp.proofs.NameTableLemmas.{is_new, registered_lawful}
use Rattle.at_nbp.proofs.TitleLemmas.{IsFiled, names_more}
use Rattle.at_nbp.proofs.names.Names.register.Given.{Over}
use Rattle.at_nbp.proofs.names.Names.register.Goals as goal

abbrev name : (g : Over) → goal.After-unwrap g → Registered
name g c = record {
  object = c.args.object;
  kind = c.args.kind;
  socket = c.args.socket;
  enumerator = c.least_free-enumerator.result;
}

unrefused : (g : Over) (c : goal.After-unwrap g)
    → register_fault (values c.self.inside.names) c.args.object c.args.kind ≡ None
unrefused g c = ap (λ (t : Table). register_fault t.names c.args.object c.args.kind) c.self.view_is
    ∙ sym c.register_fault.ensures ∙ c.in_default.is

filed : (g : Over) (c : goal.After-unwrap g)
    → IsFiled c.self.inside.names.entries c.insert.new.self.entries (name g c)
filed g c = names_more c.reserve.new.self c.self.inside.names.entries c.insert.new.self.entries c.of-title.result
    (name g c) c.reserve.ensures.entries c.self.invariant.1
    (is_new (values c.self.inside.names) c.args.object c.args.kind (unrefused g c)) c.of-title.ensures
    (rw c.unwrap.ensures at c.insert.ensures.entries)

listed : (g : Over) (c : goal.After-unwrap g) → c.as_slice.result.now ≡ values c.self.inside.names
listed g c = c.as_slice.ensures ∙ c.values.ensures.rest
    ∙ ap values_of c.reserve.ensures.entries

pub invariant_of-self-2 : goal.invariant_of-self-2
invariant_of-self-2 g c =
    let free : list_any (has_number c.args.socket c.least_free-enumerator.result) (values c.self.inside.names) ≡ false =
    subst (λ (l : List Registered). list_any (has_number c.args.socket c.least_free-enumerator.result) l ≡ false)
    (listed g c) c.least_free-enumerator.ensures.free in (
      subst AreNames (sym (filed g c).names)
          (registered_lawful (values c.self.inside.names) (name g c) c.self.invariant.0 (unrefused g c) free),
      (filed g c).titled,
    )

pub returns-clause-ok : goal.returns-clause-ok
returns-clause-ok g c = rw (← c.self.view_is) (record {
  enumerator = c.least_free-enumerator.result;
  least = subst (λ l. IsLeastFree l c.args.socket c.least_free-enumerator.result) (listed g c)
      c.least_free-enumerator.ensures;
  joins = λ j. record { own = c.self.inside.own; zone = c.self.inside.zone; names = (filed g c).names j };
})

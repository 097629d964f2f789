use Rattle.std.proofs.Common.{◌≡◌, sym, ap, subst, ◌∙◌}
use Rattle.std.specs.Prelude.{find}
use Rattle.std.specs.Map.{values_of}
use Rattle.indexmap.specs.IndexMap.{get, shift_remove_entry, values}
use Rattle.at_nbp.specs.NameTables.{AreNames, Table, is_called}
use Rattle.at_nbp.specs.Titles.{titled}
use Rattle.at_nbp.proofs.NameTableLemmas.{none_found, some_found, unregistered_lawful}
use Rattle.at_nbp.proofs.TitleLemmas.{is_titled, name_under, names_without, titled_without}
use Rattle.at_nbp.proofs.names.Names.unregister.Given.{Over}
use Rattle.at_nbp.proofs.names.Names.unregister.Goals as goal
use Rattle.at_nbp.proofs.names.Names.unregister.Goals.{After-shift_remove}

-- what is removed is the name, if there is one
removed : (g : Over) (c : After-shift_remove g)
    → c.shift_remove.result ≡ find (is_called c.args.object.now c.args.kind.now) c.args.self.now.names
removed g c = c.shift_remove.ensures.value ∙ ap (get is_titled c.self.inside.names) c.of.ensures
    ∙ name_under c.args.object.now c.args.kind.now c.self.inside.names.entries c.self.invariant.1
    ∙ ap (λ (t : Table). find (is_called c.args.object.now c.args.kind.now) t.names) c.self.view_is

left : (g : Over) (c : After-shift_remove g) → c.shift_remove.new.self.entries
    ≡ shift_remove_entry (is_titled (titled c.args.object.now c.args.kind.now)) c.self.inside.names.entries
left g c = c.shift_remove.ensures.entries
    ∙ ap (λ t. shift_remove_entry (is_titled t) c.self.inside.names.entries) c.of.ensures

pub returns-in_default-clause-found : goal.returns-in_default-clause-found
returns-in_default-clause-found g c = none_found (is_called c.args.object.now c.args.kind.now) c.args.self.now.names
    (sym (removed g (goal.at.returns-in_default-clause-found g c).After-shift_remove) ∙ c.in_default.is)

pub invariant_of-self-2 : goal.invariant_of-self-2
invariant_of-self-2 g c = rw (left g (goal.at.invariant_of-self-2 g c).After-shift_remove) (
  subst AreNames
      (sym (names_without c.args.object.now c.args.kind.now c.self.inside.names.entries c.self.invariant.1))
      (unregistered_lawful (is_called c.args.object.now c.args.kind.now) (values c.self.inside.names)
      c.self.invariant.0),
  titled_without c.args.object.now c.args.kind.now c.self.inside.names.entries c.self.invariant.1,
)

pub returns-clause-ok : goal.returns-clause-ok
returns-clause-ok g c =
    let names = ap values_of (left g (goal.at.returns-clause-ok g c).After-shift_remove)
    ∙ names_without c.args.object.now c.args.kind.now c.self.inside.names.entries c.self.invariant.1 in
    rw (← c.self.view_is) (λ j. record { own = c.self.inside.own; zone = c.self.inside.zone; names = names j })

pub returns-clause-found : goal.returns-clause-found
returns-clause-found g c = some_found (is_called c.args.object.now c.args.kind.now) c.args.self.now.names
    c.in-Some._name (sym (removed g (goal.at.returns-clause-found g c).After-shift_remove) ∙ c.in-Some.is)

use Rattle.std.proofs.Common.{ap, ◌∙◌}
use Rattle.std.specs.Prelude.{find}
use Rattle.at_nbp.specs.NameTables.{Table, is_called}
use Rattle.at_nbp.proofs.TitleLemmas.{is_titled, name_under}
use Rattle.indexmap.specs.IndexMap.{get}
use Rattle.at_nbp.proofs.names.Names.named.Goals as goal

pub returns : goal.returns
returns g c = c.get.ensures.value ∙ ap (get is_titled c.self.inside.names) c.of.ensures
    ∙ name_under c.args.object.now c.args.kind.now c.self.inside.names.entries c.self.invariant.1
    ∙ ap (λ (t : Table). find (is_called c.args.object.now c.args.kind.now) t.names) c.self.view_is

use Rattle.std.proofs.Common.{is_some, ap, ◌∙◌}
use Rattle.at_adsp_ends.specs.Tables.{has_id}
use Rattle.at_adsp_ends.proofs.FindLemmas.{some_place}
use Rattle.at_adsp_ends.proofs.identifiers.is_used.Goals as goal

pub returns : goal.returns
returns g c = c.is_some.ensures ∙ ap is_some c.index_of.ensures.first
    ∙ some_place (has_id c.args.id) 0 c.args.ends.now.items

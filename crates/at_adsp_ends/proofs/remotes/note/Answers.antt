use Rattle.std.proofs.Common.{cond, Some, ap, ◌∙◌}
use Rattle.at_adsp_ends.specs.Filed.{named}
use Rattle.at_adsp_ends.proofs.FiledLemmas.{same_as}
use Rattle.at_adsp_ends.proofs.remotes.note.Goals as goal

pub returns-clause-under : goal.returns-clause-under
returns-clause-under g c =
    let updates = rw c.unwrap.ensures at c.insert.ensures.updates in
    λ r. updates.0 (r.address, r.id)
    ∙ ap (λ b. cond b (Some c.args.id) (named c.args.remotes.now r)) (same_as c.args.remote r)

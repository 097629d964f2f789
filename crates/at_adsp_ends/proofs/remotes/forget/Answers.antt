use Rattle.std.proofs.Common.{cond, None, ap, ◌∙◌}
use Rattle.at_adsp_ends.specs.Filed.{named}
use Rattle.at_adsp_ends.proofs.FiledLemmas.{same_as}
use Rattle.at_adsp_ends.proofs.remotes.forget.Goals as goal

pub returns-clause-under : goal.returns-clause-under
returns-clause-under g c = λ r. c.shift_remove.ensures.updates.0 (r.address, r.id)
    ∙ ap (λ b. cond b None (named c.args.remotes.now r)) (same_as c.args.remote r)

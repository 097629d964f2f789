use Rattle.std.proofs.Common.{sym, ◌∙◌}
use Rattle.at_adsp_ends.proofs.FiledLemmas.{none_under, some_under}
use Rattle.at_adsp_ends.proofs.ends.Ends.index_of_remote.Goals as goal

pub returns-in_err-id-clause-first : goal.returns-in_err-id-clause-first
returns-in_err-id-clause-first g c = rw (← c.self.view_is) (c.from_residual.ensures
    ∙ sym (none_under c.self.invariant.1 c.args.remote (sym c.id_under.ensures ∙ c.in_err-id.was)))

pub returns-clause-first : goal.returns-clause-first
returns-clause-first g c = rw (← c.self.view_is) (c.index_of.ensures.first
    ∙ some_under c.self.invariant.1 c.self.invariant.0.ids_differ c.args.remote c.in_ok-id.id
    (sym c.id_under.ensures ∙ c.in_ok-id.was))

use Rattle.std.proofs.Common.{sym, ap, ◌∙◌}
use Rattle.std.specs.Prelude.{find}
use Rattle.std.specs.Option.{option_copied}
use Rattle.at_adsp_end.specs.Ends.{has_remote}
use Rattle.at_adsp_ends.specs.Tables.{EndTable}
use Rattle.at_adsp_ends.proofs.Places.{first_at, none_at, place_in}
use Rattle.at_adsp_ends.proofs.ends.Ends.end_of.Goals as goal

pub returns-in_err-index : goal.returns-in_err-index
returns-in_err-index g c = ap option_copied c.from_residual.ensures
    ∙ sym (none_at (has_remote c.args.remote) c.args.self.now.ends c.index_of_remote.ensures.first c.in_err-index.was)

pub returns : goal.returns
returns g c =
    let first = place_in (has_remote c.args.remote) c.self.view_is c.index_of_remote.ensures.first in
    sym (first_at (has_remote c.args.remote) c.self.inside.ends.items first c.in_ok-index.was c.at.ensures)
    ∙ ap (λ (t : EndTable). find (has_remote c.args.remote) t.ends) c.self.view_is

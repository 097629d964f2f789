use Rattle.std.proofs.Common.{subst}
use Rattle.std.specs.Prelude.{OnErr}
use Rattle.at_setup_lines.specs.Drafts.{IsNoSetup}
use Rattle.at_schedule.specs.contracts.draft.Draft.finish.{A-type}
use Rattle.at_schedule.proofs.draft.Draft.finish.Goals as goal

pub returns-clause-only : goal.returns-clause-only
returns-clause-only g c =
    subst (λ d. OnErr c.finish.result (IsNoSetup (A-type g.row.A) d)) c.self.view_is c.finish.ensures.only

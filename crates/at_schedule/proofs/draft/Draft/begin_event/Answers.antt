use Rattle.std.proofs.Common.{subst}
use Rattle.at_setup_lines.specs.Drafts.{IsNoSetup}
use Rattle.at_schedule.specs.contracts.draft.Draft.begin_event.{A-type}
use Rattle.at_schedule.proofs.draft.Draft.begin_event.Goals as goal

pub returns-in-Err-clause-only : goal.returns-in-Err-clause-only
returns-in-Err-clause-only g c = subst (IsNoSetup (A-type g.row.A)) c.self.view_is c.in-Err.ensures.only

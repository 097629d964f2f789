use Rattle.at_setup_lines.proofs.EndingLemmas.{can_end}
use Rattle.at_setup_lines.proofs.laws.each_draft_can_end.Goals as goal

pub returns : goal.returns
returns g c = λ most d lines place h. can_end g.row.A.Denot most d lines place h

use Rattle.at_schedule.proofs.LineLemmas.{line_first}
use Rattle.at_schedule.proofs.laws.first_line.Goals as goal

pub returns : goal.returns
returns c = line_first

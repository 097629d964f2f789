use Rattle.at_schedule.proofs.CutLemmas.{within}
use Rattle.at_schedule.proofs.cutting.end_of_line.Goals as goal

pub returns-clause-within : goal.returns-clause-within
returns-clause-within c = within c.args.text.now c.memchr.result c.memchr.ensures

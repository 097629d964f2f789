use Rattle.std.proofs.Common.{rules}
use Rattle.at_adsp_frame.specs.Segments.{spelled}
use Rattle.at_adsp_frame.proofs.writing.head_of.Goals as goal

pub returns-in-Open-clause-begins : goal.returns-in-Open-clause-begins
unfolding spelled
returns-in-Open-clause-begins c = search rules

pub returns-in_default : goal.returns-in_default
unfolding spelled
returns-in_default c = search rules

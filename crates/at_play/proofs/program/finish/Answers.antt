use Rattle.std.proofs.Common.{rules}
use Rattle.at_play.proofs.program.finish.Goals as goal

pub returns-in-Err-Stopped-clause-done : goal.returns-in-Err-Stopped-clause-done
returns-in-Err-Stopped-clause-done g c = search rules

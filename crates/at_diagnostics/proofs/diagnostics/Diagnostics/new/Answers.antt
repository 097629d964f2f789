use Rattle.std.proofs.Common.{rules}
use Rattle.at_diagnostics.proofs.diagnostics.Diagnostics.new.Goals as goal

pub returns : goal.returns
returns g c = search rules

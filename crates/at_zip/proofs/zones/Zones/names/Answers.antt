use Rattle.std.proofs.Common.{rules}
use Rattle.at_zip.proofs.zones.Zones.names.Goals as goal

pub returns-clause-value : goal.returns-clause-value
returns-clause-value g c = search rules

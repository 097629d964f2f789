use Rattle.std.proofs.Common.{rules}
use Rattle.at_zip.proofs.fault.ZipFault.number.Goals as goal

pub returns-in-BadZone : goal.returns-in-BadZone
returns-in-BadZone c = search rules

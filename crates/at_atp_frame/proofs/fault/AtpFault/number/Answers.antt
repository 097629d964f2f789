use Rattle.std.proofs.Common.{rules}
use Rattle.at_atp_frame.proofs.fault.AtpFault.number.Goals as goal

pub returns-in-Gone : goal.returns-in-Gone
returns-in-Gone c = search rules

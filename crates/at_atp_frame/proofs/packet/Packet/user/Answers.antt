use Rattle.std.proofs.Common.{rules}
use Rattle.at_atp_frame.proofs.packet.Packet.user.Goals as goal

pub returns : goal.returns
returns g c = search rules

use Rattle.std.proofs.Common.{refl}
use Rattle.at_atp_frame.proofs.packet.Packet.new.Goals as goal

pub returns : goal.returns
returns g c = refl

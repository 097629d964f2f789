use Rattle.std.proofs.Common.{rules}
use Rattle.at_zone_socket.proofs.atp_part.AtpPart.new.Goals as goal

pub returns : goal.returns
returns g c = search rules

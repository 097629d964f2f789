use Rattle.std.proofs.Common.{rules}
use Rattle.at_name_socket.proofs.claiming.any_pattern.Goals as goal

pub returns : goal.returns
returns g = search rules

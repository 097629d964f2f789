use Rattle.std.proofs.Common.{rules}
use Rattle.at_name_socket.proofs.socket.NameSocket.next_id.Goals as goal

pub returns : goal.returns
returns g c = search rules

use Rattle.std.proofs.Common.{rules}
use Rattle.at_name_socket.proofs.socket.NameSocket.taker.Goals as goal

pub returns-then-count-gt0 : goal.returns-then-count-gt0
returns-then-count-gt0 g c = search rules

pub returns-else-count-gt0 : goal.returns-else-count-gt0
returns-else-count-gt0 g c = search rules

use Rattle.std.proofs.Common.{rules}
use Rattle.at_name_socket.proofs.socket.NameSocket.register.Goals as goal

pub returns-clause-ok : goal.returns-clause-ok
returns-clause-ok g c = search rules

pub returns-clause-refuses : goal.returns-clause-refuses
returns-clause-refuses g c = search rules

use Rattle.std.proofs.Common.{rules}
use Rattle.at_name_socket.proofs.socket.NameSocket.find.Goals as goal

pub returns-clause-drawn : goal.returns-clause-drawn
returns-clause-drawn g c = search rules

pub returns-clause-state : goal.returns-clause-state
returns-clause-state g c = search rules

pub returns-clause-sent : goal.returns-clause-sent
returns-clause-sent g c = search rules

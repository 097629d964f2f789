use Rattle.at_node.proofs.Protocols.{call_stays, timer_stays}
use Rattle.at_node.proofs.ToldLemmas.{bytes_stay}
use Rattle.at_node.proofs.laws.a_node_keeps_its_seat.Goals as goal

pub returns-clause-call : goal.returns-clause-call
returns-clause-call g c = call_stays g.row.A.Denot

pub returns-clause-timer : goal.returns-clause-timer
returns-clause-timer g c = timer_stays g.row.A.Denot

pub returns-clause-bytes : goal.returns-clause-bytes
returns-clause-bytes g c = bytes_stay g.row.A.Denot

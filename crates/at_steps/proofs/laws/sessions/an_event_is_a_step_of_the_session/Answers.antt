use Rattle.at_steps.proofs.Sessions.{call_steps, datagram_steps, timer_steps}
use Rattle.at_steps.proofs.laws.sessions.an_event_is_a_step_of_the_session.Goals as goal

pub returns-clause-call : goal.returns-clause-call
returns-clause-call g c = call_steps g.row.A.Denot

pub returns-clause-timer : goal.returns-clause-timer
returns-clause-timer g c = timer_steps g.row.A.Denot

pub returns-clause-datagram : goal.returns-clause-datagram
returns-clause-datagram g c = λ n which bytes said o h. datagram_steps g.row.A.Denot n which said o bytes h

use Rattle.at_name_socket.proofs.socket.NameSocket.retry.Goals as goal

pub returns-clause-ok : goal.returns-clause-ok
returns-clause-ok g c = rw (← c.self.view_is) c.retry.ensures.ok

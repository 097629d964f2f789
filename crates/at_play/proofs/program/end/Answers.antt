use Rattle.at_play.proofs.program.end.Goals as goal

pub returns-clause-said : goal.returns-clause-said
returns-clause-said g c = (c.finish-status.new.diagnostics, c.finish-status.ensures.said, c.tell_writes.ensures)

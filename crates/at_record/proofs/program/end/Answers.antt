use Rattle.at_record.proofs.program.end.Goals as goal

pub returns-clause-said : goal.returns-clause-said
returns-clause-said g c = (c.tell_end-status.new.diagnostics, c.tell_end-status.ensures.told, c.tell_writes.ensures)

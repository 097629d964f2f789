use Rattle.at_drive_text.proofs.fault.end_at_fault.Goals as goal

pub returns-clause-told : goal.returns-clause-told
returns-clause-told g c = (c.tell_stop.new.self, rw c.from.ensures at c.tell_stop.ensures, c.tell_writes.ensures)

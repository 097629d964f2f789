use Rattle.at_drive_text.proofs.fault.end_at_line.Goals as goal

pub returns-clause-told : goal.returns-clause-told
returns-clause-told g c = (c.tell_line.new.self, c.tell_line.ensures, c.tell_writes.ensures)

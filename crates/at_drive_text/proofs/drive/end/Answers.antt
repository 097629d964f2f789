use Rattle.at_drive_text.proofs.drive.end.Goals as goal

pub returns-clause-told : goal.returns-clause-told
returns-clause-told g c = (c.finish-status.new.diagnostics, c.finish-status.ensures.told, c.tell_writes.ensures)

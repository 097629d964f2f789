use Rattle.at_record.proofs.command.record_source.Goals as goal

pub returns-in-Stream-clause-recorded : goal.returns-in-Stream-clause-recorded
returns-in-Stream-clause-recorded g c = rw c.in-Stream.is (
  c.tell_input.new.diagnostics,
  c.tell_input.ensures,
  (c.record_text.ensures.too_long, c.record_text.ensures.recorded),
)

pub returns-in-Opened-clause-recorded : goal.returns-in-Opened-clause-recorded
returns-in-Opened-clause-recorded g c =
    rw c.in-Opened.is (c.record_text-in-Opened.ensures.too_long, c.record_text-in-Opened.ensures.recorded)

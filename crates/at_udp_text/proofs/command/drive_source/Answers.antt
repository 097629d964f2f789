use Rattle.at_udp_text.proofs.command.drive_source.Goals as goal

pub returns-in-Stream-clause-ended : goal.returns-in-Stream-clause-ended
returns-in-Stream-clause-ended g c = rw c.in-Stream.is (
  c.tell_input.new.diagnostics,
  c.tell_input.ensures,
  c.drive_stream.ensures.too_long,
  c.drive_stream.ensures.ended,
)

use Rattle.std.proofs.Common.{Ok}
use Rattle.at_udp_text.proofs.program.drive_opened.Goals as goal

pub returns-in-Ok-clause-ended : goal.returns-in-Ok-clause-ended
returns-in-Ok-clause-ended g c = (
  Ok tt,
  c.send_back.new.self,
  c.in-Ok.ensures.went,
  (c.drive_file.ensures.too_long, c.drive_file.ensures.ended),
)

pub returns-in-Err-clause-ended : goal.returns-in-Err-clause-ended
returns-in-Err-clause-ended g c = (
  _,
  c.send_back.new.self,
  c.in-Err.ensures.went,
  (c.drive_stream.ensures.too_long, c.drive_stream.ensures.ended),
)

use Rattle.std.proofs.Common.{refl}
use Rattle.at_record.proofs.command.end_unrecorded.Goals as goal

pub returns-clause-ended : goal.returns-clause-ended
returns-clause-ended g c = (
  refl,
  c.finish-status.ensures.printed,
  (c.tell_unopened.new.self, c.tell_unopened.ensures, c.tell_writes.ensures),
)

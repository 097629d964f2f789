use Rattle.std.proofs.Common.{Err, ap, refl}
use Rattle.at_play.proofs.playing.next_line.Goals as goal

pub returns-in-Err-NoMemory-clause-unread : goal.returns-in-Err-NoMemory-clause-unread
returns-in-Err-NoMemory-clause-unread g c =
    rw c.no_memory.ensures.stop (refl, c.in-Err-NoMemory.ensures.memory (ap Err c.in-Err-NoMemory.field-0-is))

use Rattle.at_nbp.proofs.ReplyLemmas.{InReply}
use Rattle.at_nbp.proofs.replies.fitting.Given as goal

abbrev pub invariant-loop-count : goal.invariant-loop-count
invariant-loop-count l = InReply l.tuples l.count l.len

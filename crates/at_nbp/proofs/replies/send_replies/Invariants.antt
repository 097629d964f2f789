use Rattle.std.proofs.Common.{◌-◌, ◌≤◌, length, map, vec_capacity}
use Rattle.at_nbp.specs.Tuples.{content}
use Rattle.at_nbp.proofs.ReplyLemmas.{AreSent}
use Rattle.at_nbp.proofs.replies.send_replies.Given as goal

abbrev pub invariant-loop-sent : goal.invariant-loop-sent
invariant-loop-sent g l = AreSent (map content l.tuples) l.id l.to l.sent l.fn.out l.out × (586 ≤ vec_capacity l.bytes)

abbrev pub decreases-loop-sent : goal.decreases-loop-sent
decreases-loop-sent g l = length l.tuples - l.sent

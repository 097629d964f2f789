use Rattle.std.proofs.Common.{length}
use Rattle.at_call_words.proofs.ItemLemmas.{BytesSoFar}
use Rattle.at_call_words.proofs.call.items.push_bytes.Given as goal

abbrev pub invariant-loop-block : goal.invariant-loop-block
invariant-loop-block g l = BytesSoFar l.fn.digits l.rest l.initial.items.items l.items.items

abbrev pub decreases-loop-block : goal.decreases-loop-block
decreases-loop-block g l = length l.rest

use Rattle.at_words.proofs.PairLemmas.{IsReadTo}
use Rattle.at_words.proofs.pairs.put_bytes.Given as goal

abbrev pub invariant-loop-place : goal.invariant-loop-place
invariant-loop-place l = IsReadTo l.digits l.room l.place l.largest

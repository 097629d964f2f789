use Rattle.at_words.proofs.NumberLemmas.{Reads}
use Rattle.at_words.proofs.word.number.Given as goal

abbrev pub invariant-loop-byte : goal.invariant-loop-byte
invariant-loop-byte l = Reads 18446744073709551615 l.word l.byte-index l.number

use Rattle.std.proofs.Common.{length}
use Rattle.at_words.proofs.TextLemmas.{Spells}
use Rattle.at_words.proofs.text_word.glyphs.Given as goal

abbrev pub invariant-loop-rest : goal.invariant-loop-rest
invariant-loop-rest l = Spells l.fn.word l.rest l.bytes.items

abbrev pub decreases-loop-rest : goal.decreases-loop-rest
decreases-loop-rest l = length l.rest

use Rattle.at_words.specs.Words.{words_of}
use Rattle.at_call_words.proofs.ItemLemmas.{ItemsSoFar}
use Rattle.at_call_words.proofs.call.items.items_of.Given as goal

abbrev pub invariant-loop-word : goal.invariant-loop-word
invariant-loop-word g l = ItemsSoFar (words_of l.fn.words.rest.now) (words_of l.word-iterator.rest.now) l.items.items

use Rattle.at_words.specs.Texts.{IsText}
use Rattle.at_words.specs.Words.{words_of}
use Rattle.at_call_words.proofs.WordLemmas.{SaidSoFar}
use Rattle.at_call_words.proofs.call.tables.names_of.Given as goal

abbrev pub invariant-loop-word : goal.invariant-loop-word
invariant-loop-word g l =
    SaidSoFar IsText (words_of l.fn.words.rest.now) (words_of l.word-iterator.rest.now) l.names.items

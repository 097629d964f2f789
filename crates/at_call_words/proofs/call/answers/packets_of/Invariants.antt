use Rattle.at_words.specs.Words.{words_of}
use Rattle.at_call_words.specs.Calls.Transactions.{IsPacketWord}
use Rattle.at_call_words.proofs.WordLemmas.{SaidSoFar}
use Rattle.at_call_words.proofs.call.answers.packets_of.Given as goal

abbrev pub invariant-loop-word : goal.invariant-loop-word
invariant-loop-word g l = SaidSoFar IsPacketWord (words_of l.fn.words.rest.now)
    (words_of l.word-iterator.rest.now) l.packets.items

use Rattle.at_words.specs.Words.{words_of}
use Rattle.at_call_words.specs.Items.{AreItems}
use Rattle.at_call_words.proofs.ItemLemmas.{next_items, one_lacks, word_has_bytes}
use Rattle.at_call_words.proofs.WordLemmas.{exit_of, lacks_told}
use Rattle.at_call_words.proofs.call.items.items_of.Goals as goal

pub push_word-requires : goal.push_word-requires
push_word-requires g c = word_has_bytes c.loop-word.word-iterator.rest.now c.in-Some.word.now
    (words_of c.next.new.self.rest.now) c.in-Some.ensures.steps

pub loop-word-preserved : goal.loop-word-preserved
loop-word-preserved g c =
    let said = c.in_ok-push_word.ensures.said in
    next_items (words_of c.args.words.rest.now) (words_of c.loop-word.word-iterator.rest.now)
    (words_of c.next.new.self.rest.now) c.loop-word.items.items c.push_word.new.items.items said.0
    c.in-Some.word.now
    c.loop-word.invariant c.in-Some.ensures.steps said.1 said.2

pub returns-in_err-push_word : goal.returns-in_err-push_word
returns-in_err-push_word g c =
    let ws = words_of c.args.words.rest.now in
    lacks_told _ (AreItems ws) c.push_word.result c.from_residual-in_err-push_word.result c.in_err-push_word.field-0.0
    c.in_err-push_word.was
    (exit_of c.from_residual-in_err-push_word.result _ c.from_residual-in_err-push_word.ensures.1)
    c.push_word.ensures.only
    (one_lacks ws (words_of c.loop-word.word-iterator.rest.now)
    (words_of c.next.new.self.rest.now) c.loop-word.items.items c.in-Some.word.now c.loop-word.invariant
    c.in-Some.ensures.steps)

use Rattle.at_words.specs.Texts.{IsText}
use Rattle.at_words.specs.Words.{words_of}
use Rattle.std.specs.List.{AllZip}
use Rattle.at_call_words.proofs.WordLemmas.{exit_of, in_memory, next_said, one_lacks, some_of, told_on}
use Rattle.at_call_words.proofs.call.tables.names_of.Goals as goal

pub loop-word-preserved : goal.loop-word-preserved
loop-word-preserved g c =
    let some = some_of c.text.result _ c.ok_or.result c.in_ok-name.name c.ok_or.ensures.value c.in_ok-name.was in
    let said = rw some at c.text.ensures in
    next_said IsText (words_of c.args.words.rest.now) (words_of c.loop-word.word-iterator.rest.now)
    (words_of c.next.new.self.rest.now) c.loop-word.names.items c.push.new.self.items c.in-Some.word.now
    c.in_ok-name.name
    c.loop-word.invariant c.in-Some.ensures.steps said c.in_ok-push.ensures.items

pub returns-in_err-name-clause-said : goal.returns-in_err-name-clause-said
returns-in_err-name-clause-said g c =
    let ws = words_of c.args.words.rest.now in
    let told = in_memory (IsText c.in-Some.word.now) c.text.result _ c.ok_or.result c.ok_or.ensures.value
    c.text.ensures in
    told_on (IsText c.in-Some.word.now) (AllZip IsText ws) c.ok_or.result c.from_residual.result
    c.in_err-name.field-0.0 c.in_err-name.was (exit_of c.from_residual.result _ c.from_residual.ensures.1) told
    (λ never. one_lacks IsText ws (words_of c.loop-word.word-iterator.rest.now)
    (words_of c.next.new.self.rest.now) c.loop-word.names.items c.in-Some.word.now c.loop-word.invariant
    c.in-Some.ensures.steps never)

use Rattle.std.proofs.Common.{refl, ◌≡◌, ◌<◌, ◌-◌, length, take, drop}
use Rattle.at_words.proofs.WordLemmas.{is_some, is_zero, next_word, no_words, rest_from}
use Rattle.at_words.proofs.word.WordsIterator.next.Goals as goal

pub returns-then-is_empty-clause-steps : goal.returns-then-is_empty-clause-steps
returns-then-is_empty-clause-steps c =
    let xs = c.args.self.now.rest.now in
    let r = take (length xs - c.spaces.result) (drop c.spaces.result xs) in
    let none : length r ≡ 0 = is_zero (length r) c.is_empty.result c.if-is_empty.true c.is_empty.ensures in
    let over = no_words xs c.spaces.result r c.spaces.ensures.value (rest_from c.spaces.result xs) none in
    (over, over)

pub returns-clause-steps : goal.returns-clause-steps
returns-clause-steps c =
    let xs = c.args.self.now.rest.now in
    let r = take (length xs - c.spaces.result) (drop c.spaces.result xs) in
    let some : 0 < length r = is_some (length r) c.is_empty.result c.if-is_empty.false c.is_empty.ensures in
    next_word xs c.spaces.result c.word_len-len.result r (take c.word_len-len.result r)
    (take (length r - c.word_len-len.result) (drop c.word_len-len.result r))
    c.spaces.ensures.value (rest_from c.spaces.result xs) some c.word_len-len.ensures.value refl
    (rest_from c.word_len-len.result r)

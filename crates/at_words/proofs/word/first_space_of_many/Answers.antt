use Rattle.at_words.specs.Words.{is_space}
use Rattle.at_words.proofs.WordLemmas.{first_found}
use Rattle.at_words.proofs.word.first_space_of_many.Goals as goal

pub returns : goal.returns
returns c = first_found is_space c.args.text.now c.memchr.result c.memchr.ensures

use Rattle.at_words.proofs.HexLemmas.{user_found}
use Rattle.at_words.proofs.hex_word.user_of.Goals as goal

pub returns : goal.returns
returns c = user_found c.args.word.now c.from_hex.result c.ok.result c.from_hex.ensures c.ok.ensures.value

use Rattle.std.proofs.Common.{Err, ap, ◌∙◌}
use Rattle.at_call_words.proofs.data_word.data_of.Goals as goal

pub returns-in-Err-NoHex : goal.returns-in-Err-NoHex
returns-in-Err-NoHex g c = c.bytes_of.ensures.fault (c.in-Err-NoHex.is ∙ ap Err c.in-Err-NoHex.field-0-is)

use Rattle.std.proofs.Common.{sym, ◌∙◌}
use Rattle.at_words.proofs.PairLemmas.{long_room, no_hex}
use Rattle.at_words.proofs.hex_word.bytes_of.Goals as goal

pub returns-else-put_bytes-clause-fault : goal.returns-else-put_bytes-clause-fault
returns-else-put_bytes-clause-fault g c fault =
    no_hex c.args.word.now c.as_mut_slice.result.now
    (λ dash. cc (sym (c.is_word.ensures.1 dash), c.if-is_word.false))
    (c.as_mut_slice.ensures.len ∙ long_room c.resize.result _ _ c.resize.new.self.len c.resize.ensures.len
    (sym c.if-is_err.false ∙ c.is_err.ensures.value))
    (c.put_bytes.ensures.only c.if-put_bytes.false)

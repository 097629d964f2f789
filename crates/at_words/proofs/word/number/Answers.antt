use Rattle.std.proofs.Common.{arith, length}
use Rattle.at_words.proofs.NumberLemmas.{Reads-digits, Reads-last, Reads-next}
use Rattle.at_words.proofs.WordLemmas.{is_some}
use Rattle.at_words.proofs.word.number.Goals as goal

pub loop-byte-preserved : goal.loop-byte-preserved
loop-byte-preserved c =
    let digit = rw c.if-not-is_ascii_digit.false at c.is_ascii_digit.ensures.cases in
    Reads-next 18446744073709551615 c.loop-byte.number c.with_digit-number.result c.args.word.now
    c.loop-byte.byte-index (omega arith) digit (omega arith) c.loop-byte.invariant

pub returns : goal.returns
returns c = (
  (
    is_some (length c.args.word.now) c.is_empty.result c.if-is_empty.false c.is_empty.ensures,
    Reads-digits 18446744073709551615 c.loop-byte.number c.args.word.now c.loop-byte.byte-index
        (omega arith) c.loop-byte.invariant,
  ),
  Reads-last 18446744073709551615 c.loop-byte.number c.args.word.now c.loop-byte.byte-index
      (omega arith) c.loop-byte.invariant,
)

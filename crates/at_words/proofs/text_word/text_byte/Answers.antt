use Rattle.std.proofs.Common.{sym, ap, ◌∙◌}
use Rattle.hex.specs.Hex.{decode_of}
use Rattle.at_words.proofs.TextLemmas.{no_digits, spelled_as_it_is, spelled_by_digits, too_few}
use Rattle.at_words.proofs.text_word.text_byte.Goals as goal

pub returns-in_ok-any_byte-clause-spelled : goal.returns-in_ok-any_byte-clause-spelled
returns-in_ok-any_byte-clause-spelled c =
    let split = c.in_ok-digits.ensures.cases in
    spelled_by_digits c.args.text.now c.in_ok-byte.rest.now c.in_ok-digits.digits.now c.in_ok-digits.after.now
    c.in_ok-byte.byte.now c.in_ok-any_byte.field-0
    c.in_ok-byte.ensures.cases.0 c.if-byte-eq37.true split.1 split.2 c.in_ok-any_byte.ensures

pub returns-then-is_ascii_graphic-clause-spelled : goal.returns-then-is_ascii_graphic-clause-spelled
returns-then-is_ascii_graphic-clause-spelled c =
    spelled_as_it_is c.args.text.now c.in_ok-byte.rest.now c.in_ok-byte.byte.now c.in_ok-byte.ensures.cases.0
    (sym c.if-is_ascii_graphic.ensures.value) c.if-byte-eq37.false

pub returns-in_err-digits-clause-only : goal.returns-in_err-digits-clause-only
returns-in_err-digits-clause-only c none =
    no_digits c.args.text.now c.in_ok-byte.rest.now c.in_ok-byte.byte.now c.in_ok-byte.ensures.cases.0
    c.if-byte-eq37.true (too_few c.in_ok-byte.rest.now c.in_err-digits.ensures.cases)

pub returns-in_err-any_byte-clause-only : goal.returns-in_err-any_byte-clause-only
returns-in_err-any_byte-clause-only c none =
    let split = c.in_ok-digits.ensures.cases in
    no_digits c.args.text.now c.in_ok-byte.rest.now c.in_ok-byte.byte.now c.in_ok-byte.ensures.cases.0
    c.if-byte-eq37.true (λ b decoded. c.in_err-any_byte.ensures b (ap decode_of split.1 ∙ decoded))

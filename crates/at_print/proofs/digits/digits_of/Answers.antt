use Rattle.std.proofs.Common.{true, get_or, ◌/◌, sym, ap, ◌∙◌, ◌++◌, ◌∷◌, [], ◌+◌, ◌*◌, ◌<◌, take, length, arith}
use Rattle.std.proofs.Math.ListN.{set}
use Rattle.std.proofs.lemmas.List.{length-set}
use Rattle.std.specs.Fmt.{digit_glyph}
use Rattle.at_print.specs.Lines.{pairs}
use Rattle.at_print.proofs.PrintLemmas.{pairs-next, two_more}
use Rattle.at_print.proofs.digits.digits_of.Goals as goal

pub loop-place-preserved : goal.loop-place-preserved
loop-place-preserved c =
    let place = c.loop-place.place in
    let high = c.digit.result in
    let low = c.digit-in-loop-place.result in
    let within : place < length c.args.block.now = omega arith in
    let room : 2 * place + 1 < length c.loop-place.digits = omega (arith, c.loop-place.invariant.0) in
    let written = two_more c.loop-place.digits (2 * place) (2 * (place + 1)) high low (omega arith) room in (
      length-set (set c.loop-place.digits (2 * place) high) (2 * place + 1) low
          ∙ length-set c.loop-place.digits (2 * place) high ∙ c.loop-place.invariant.0,
      written
          ∙ ap (λ l. l ++ (high ∷ low ∷ [])) c.loop-place.invariant.1
          ∙ ap (λ d. pairs (take place c.args.block.now) ++ (d ∷ low ∷ [])) c.digit.ensures
          ∙ ap (λ d. pairs (take place c.args.block.now)
          ++ (digit_glyph true (get_or c.args.block.now place 0 / 16) ∷ d ∷ [])) c.digit-in-loop-place.ensures
          ∙ sym (pairs-next c.args.block.now place within),
    )

use Rattle.std.proofs.Common.{length, refl, sym, ◌∙◌}
use Rattle.at_words.proofs.HexLemmas.{none_found}
use Rattle.at_words.proofs.TextLemmas.{none_left, of_ok, spells_all, spells_more, spells_none, stops, text_found}
use Rattle.at_words.proofs.WordLemmas.{is_some}
use Rattle.at_words.proofs.text_word.glyphs.Goals as goal

pub loop-rest-init : goal.loop-rest-init
loop-rest-init c = rw c.new-bytes.ensures (spells_none c.args.word.now)

pub loop-rest-preserved : goal.loop-rest-preserved
loop-rest-preserved c =
    spells_more c.args.word.now c.loop-rest.rest.now c.in_ok-byte.after.now c.loop-rest.bytes.items
    c.try_push.new.self.items c.in_ok-byte.byte
    (is_some (length c.loop-rest.rest.now) c.is_empty.result c.loop-rest-test.true c.is_empty.ensures)
    c.loop-rest.invariant c.in_ok-byte.ensures.spelled
    (of_ok _ c.try_push.result c.ok.result _ c.ok.ensures.value c.in_ok-ok.was c.try_push.ensures.ok)

pub returns-in_err-byte : goal.returns-in_err-byte
returns-in_err-byte c = none_found c.from_residual.result _ c.from_residual.ensures (λ text (h, fits).
    stops c.args.word.now c.loop-rest.rest.now c.loop-rest.bytes.items c.loop-rest.invariant
    (is_some (length c.loop-rest.rest.now) c.is_empty.result c.loop-rest-test.true c.is_empty.ensures)
    (c.in_err-byte.ensures.only refl) text h)

pub returns : goal.returns
returns c =
    let none = none_left c.loop-rest.rest.now (sym c.is_empty.ensures ∙ c.loop-rest-test.false) in
    let all = spells_all c.args.word.now c.loop-rest.rest.now c.loop-rest.bytes.items c.loop-rest.invariant none in
    text_found c.args.word.now c.as_slice.result.now c.new.result
    (rw c.as_slice.ensures.value all) c.as_slice.ensures.fits c.new.ensures.fits c.new.ensures.value

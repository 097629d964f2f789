use Rattle.std.proofs.Common.{◌<◌, ◌*◌, ◌+◌, length, slice_index, arith, sym, ◌∙◌}
use Rattle.std.proofs.lemmas.Bool.{ltb-false, ltb-true}
use Rattle.at_words.proofs.PairLemmas.{IsRead, length_spells, none_read, other_spells_none, read_more, read_whole}
use Rattle.at_words.proofs.pairs.put_bytes.Goals as goal
use Rattle.at_words.proofs.pairs.put_bytes.Goals.{then-digits-room-via-then-digits-room}
use Rattle.at_words.proofs.pairs.put_bytes.Goals.{then-digits-room-via-else-digits-room+then-digits-ne0}

pub returns-then-digits-room-clause-only : goal.returns-then-digits-room-clause-only
returns-then-digits-room-clause-only c none bytes fits decoded =
    let (even, twice) = length_spells c.args.digits.now bytes decoded in
    elim c.then-digits-room.branch [
      | then-digits-room-via-then-digits-room w ↦ omega (arith, twice, fits, w.if-digits-room)
      | then-digits-room-via-else-digits-room+then-digits-ne0 w ↦ omega (arith, even, w.if-digits-ne0)
    ]

pub loop-place-init : goal.loop-place-init
loop-place-init c = none_read c.args.digits.now c.args.room.now

pub loop-place-preserved : goal.loop-place-preserved
loop-place-preserved c =
    let digits = c.args.digits.now in
    let place = c.loop-place.place in
    let high : IsRead (slice_index digits (2 * place)) c.value_of-high.result =
    (c.value_of-high.ensures.digit, c.value_of-high.ensures.other) in
    let low : IsRead (slice_index digits (2 * place + 1)) c.value_of-low.result =
    (c.value_of-low.ensures.digit, c.value_of-low.ensures.other) in
    let room = c.loop-place.auto.room in
    let pair : 2 * place + 1 < length digits =
    omega (arith, c.if-digits-room.false, c.if-digits-ne0.false, room, c.loop-place-test.true) in
    rw (c.max-largest.ensures, c.max.ensures)
    (read_more digits c.loop-place.room place c.loop-place.largest c.value_of-high.result c.value_of-low.result pair
    (omega (arith, room, c.loop-place-test.true)) c.loop-place.invariant high low)

pub returns-clause-spelled : goal.returns-clause-spelled
returns-clause-spelled c low =
    read_whole c.args.digits.now c.loop-place.room c.loop-place.place c.loop-place.largest
    (c.if-digits-room.false ∙ sym c.loop-place.auto.room) c.if-digits-ne0.false
    (omega (arith, c.loop-place.auto.room, c.loop-place-test.false)) c.loop-place.invariant
    (ltb-true c.loop-place.largest 16 low)

pub returns-clause-only : goal.returns-clause-only
returns-clause-only c high bytes fits =
    other_spells_none c.args.digits.now bytes (c.loop-place.invariant.1 (ltb-false c.loop-place.largest 16 high))

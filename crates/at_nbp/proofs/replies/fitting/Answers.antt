use Rattle.std.proofs.Common.{◌≡◌, ◌⊎◌, ◌+◌, ◌<◌, inl, inr, refl, arith}
use Rattle.at_nbp.proofs.ListLemmas.{fits_at}
use Rattle.at_nbp.proofs.ReplyLemmas.{reply_more, full_at}
use Rattle.at_nbp.proofs.replies.fitting.Goals as goal
use Rattle.at_nbp.proofs.replies.fitting.Goals.{then-count-eq-MAX_TUPLES-via-then-count-eq-MAX_TUPLES}
use Rattle.at_nbp.proofs.replies.fitting.Goals.{then-count-eq-MAX_TUPLES-via-else-count-eq-MAX_TUPLES+then-len-gt-MAX_DATA}

pub spelled_len-len-requires : goal.spelled_len-len-requires
spelled_len-len-requires c =
    fits_at c.args.tuples.now c.loop-count.count _ _ c.loop-count-test.true refl c.requires.short

pub overflow_add-len : goal.overflow_add-len
overflow_add-len c = omega (arith, c.loop-count.invariant.fits, c.spelled_len-len.ensures.small)

pub returns-then-count-eq-MAX_TUPLES : goal.returns-then-count-eq-MAX_TUPLES
returns-then-count-eq-MAX_TUPLES c =
    let over : (c.loop-count.count ≡ 15) ⊎ (586 < c.loop-count.len + c.spelled_len-len.result) =
    elim c.then-count-eq-MAX_TUPLES.branch [
      | then-count-eq-MAX_TUPLES-via-then-count-eq-MAX_TUPLES w ↦ inl (omega arith)
      | then-count-eq-MAX_TUPLES-via-else-count-eq-MAX_TUPLES+then-len-gt-MAX_DATA w ↦ inr (omega arith)
    ] in
    full_at c.args.tuples.now c.loop-count.count c.loop-count.len c.spelled_len-len.result _ _ c.loop-count.invariant
    c.loop-count-test.true refl
    (fits_at c.args.tuples.now c.loop-count.count _ _ c.loop-count-test.true refl c.requires.short)
    c.spelled_len-len.ensures.len over

pub loop-count-preserved : goal.loop-count-preserved
loop-count-preserved c =
    reply_more c.args.tuples.now c.loop-count.count c.loop-count.len c.spelled_len-len.result _ _
    c.loop-count.invariant c.loop-count-test.true refl
    (fits_at c.args.tuples.now c.loop-count.count _ _ c.loop-count-test.true refl c.requires.short)
    c.spelled_len-len.ensures.len (omega (arith, c.loop-count.invariant.few)) (omega arith)

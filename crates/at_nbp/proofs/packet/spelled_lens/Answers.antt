use Rattle.std.proofs.Common.{refl, arith, rules}
use Rattle.at_nbp.proofs.ListLemmas.{measured_more, measured_all, fits_at}
use Rattle.at_nbp.proofs.packet.spelled_lens.Goals as goal

pub loop-tuple-preserved : goal.loop-tuple-preserved
loop-tuple-preserved c =
    measured_more c.args.tuples.now c.loop-tuple.tuple-index c.loop-tuple.len c.spelled_len-len.result _ _
    c.loop-tuple.invariant c.loop-tuple-test.true refl
    (c.has_strings.ensures.0 c.if-not-has_strings.false) c.spelled_len-len.ensures.len

pub returns-clause-fits : goal.returns-clause-fits
returns-clause-fits c = (measured_all c.args.tuples.now c.loop-tuple.tuple-index c.loop-tuple.len
    c.loop-tuple.invariant (omega arith)).0

pub returns-then-not-has_strings-clause-none : goal.returns-then-not-has_strings-clause-none
returns-then-not-has_strings-clause-none c =
    λ none each. absurd (grind (
      rules,
      c.has_strings.ensures.1
          (fits_at c.args.tuples.now c.loop-tuple.tuple-index _ _ c.loop-tuple-test.true refl each),
    ))

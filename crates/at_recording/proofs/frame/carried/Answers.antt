use Rattle.std.proofs.Common.{arith, sym}
use Rattle.std.proofs.lemmas.List.{length-take-le, take_all}
use Rattle.at_recording.proofs.RecordLemmas.{carried_len}
use Rattle.at_recording.proofs.frame.carried.Goals as goal

pub slice_bounds-result-end : goal.slice_bounds-result-end
slice_bounds-result-end c = sym (length-take-le 1492 c.args.bytes.now (omega (arith, c.if-bytes-gt-MOST.true)))

pub returns-then-bytes-gt-MOST-clause-few : goal.returns-then-bytes-gt-MOST-clause-few
returns-then-bytes-gt-MOST-clause-few c = carried_len c.args.bytes.now

pub returns-else-bytes-gt-MOST-clause-front : goal.returns-else-bytes-gt-MOST-clause-front
returns-else-bytes-gt-MOST-clause-front c = sym (take_all 1492 c.args.bytes.now c.if-bytes-gt-MOST.false)

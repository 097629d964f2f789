use Rattle.std.proofs.Common.{◌≡◌, ◌<◌, ◌++◌, length, take, arith, length-take-le, length-append, ℕ, length-take}
use Rattle.std.proofs.KnownBytes.{Consumes-trans}
use Rattle.at_pcap.proofs.RecordLemmas.{ended}
use Rattle.at_pcap.proofs.passing.pass_over.Goals as goal

pub returns-then-len-part-clause-cut : goal.returns-then-len-part-clause-cut
returns-then-len-part-clause-cut g c is =
    let before = c.loop-left.invariant in
    let read = c.in_ok-len.ensures in
    let n = c.in_ok-len.len in
    let part = take n c.fill.new.buffer in
    let size : length c.fill.new.buffer ≡ c.min-part.result =
    omega (arith, c.fill.auto.buffer, c.min-part.ensures, length-take {A = ℕ}) in
    let short : n < length c.fill.new.buffer = omega (arith, size, c.if-len-part.true) in
    let len = length-take-le n c.fill.new.buffer read.bound in
    let sum = before.1 in (
      before.0 ++ part,
      omega (arith, length-append before.0 part, c.min-part.ensures),
      ended (g.R.Read.remaining c.args.reader.now) _ (before.0 ++ part)
          (Consumes-trans _ _ _ before.0 part before.2 read.bytes) (read.end short),
    )

pub loop-left-preserved : goal.loop-left-preserved
loop-left-preserved g c =
    let before = c.loop-left.invariant in
    let read = c.in_ok-len.ensures in
    let n = c.in_ok-len.len in
    let part = take n c.fill.new.buffer in
    let size : length c.fill.new.buffer ≡ c.min-part.result =
    omega (arith, c.fill.auto.buffer, c.min-part.ensures, length-take {A = ℕ}) in
    let len = length-take-le n c.fill.new.buffer read.bound in
    let bound = read.bound in
    let sum = before.1 in (
      before.0 ++ part,
      omega (arith, length-append before.0 part, c.min-part.ensures, c.if-len-part.false),
      Consumes-trans _ _ _ before.0 part before.2 read.bytes,
    )

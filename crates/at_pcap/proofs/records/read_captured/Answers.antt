use Rattle.std.proofs.Common.{◌<◌, length, take, arith}
use Rattle.std.proofs.lemmas.List.{length-take-le}
use Rattle.at_pcap.proofs.RecordLemmas.{ended}
use Rattle.at_pcap.proofs.records.read_captured.Goals as goal

pub returns-then-len-clause-cut : goal.returns-then-len-clause-cut
returns-then-len-clause-cut g c is =
    let read = c.in_ok-len.ensures in
    let n = c.in_ok-len.len in
    let buffer = c.fill.new.buffer in
    let short : n < length buffer = omega
    (arith, c.if-len.true, c.len.ensures, c.fill.auto.buffer, c.deref_mut.ensures.len) in (
      take n buffer,
      omega (arith, length-take-le n buffer read.bound, c.if-len.true, c.len.ensures, c.in_ok-resize.ensures.len),
      ended (g.R.Read.remaining c.args.reader.now) _ (take n buffer) read.bytes (read.end short),
    )

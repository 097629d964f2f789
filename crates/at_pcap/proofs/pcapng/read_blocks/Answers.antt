use Rattle.std.proofs.Common.{◌<◌, arith, length, take, length-take-le}
use Rattle.std.specs.Io.KnownBytes.{prepend_known}
use Rattle.std.proofs.lemmas.Result.{err_from_is_err_and}
use Rattle.at_pcap.proofs.BlockLemmas.{front_of_8}
use Rattle.at_pcap.proofs.PcapngLemmas.{all_read, broken_block, end_before, first_block, first_broken, next_block}
use Rattle.at_pcap.proofs.PcapngLemmas.{some_read}
use Rattle.at_pcap.proofs.pcapng.read_blocks.Goals as goal

pub returns-in_err-at-clause-broken : goal.returns-in_err-at-clause-broken
returns-in_err-at-clause-broken g c =
    let p = err_from_is_err_and c.from_residual.result c.from_residual.ensures.1 in
    rw (p.1, p.2)
    (first_broken g.row.S.Denot g.S.Sink.takes g.S.Sink.keeps (g.R.Read.remaining c.args.reader.now) c.args.front.now _
    _ _ _ c.requires.section c.requires.long c.in_err-at.ensures.broken)

pub loop-init : goal.loop-init
loop-init g c =
    first_block g.row.S.Denot g.S.Sink.takes (g.R.Read.remaining c.args.reader.now) _ c.args.front.now _ _ _ _ _
    c.requires.section c.requires.long c.in_ok-at.ensures.moved

pub returns-in-Err-clause-broken : goal.returns-in-Err-clause-broken
returns-in-Err-clause-broken g c =
    some_read g.row.S.Denot g.S.Sink.takes (prepend_known c.args.front.now (g.R.Read.remaining c.args.reader.now))
    _ _ _ _ _ c.loop.invariant

pub returns-then-len-eq0-clause-whole : goal.returns-then-len-eq0-clause-whole
returns-then-len-eq0-clause-whole g c =
    let n = c.in-Ok.len in
    let next = c.read_front.new.front in
    let none = c.if-len-eq0.true in
    all_read g.row.S.Denot g.S.Sink.takes (prepend_known c.args.front.now (g.R.Read.remaining c.args.reader.now))
    _ _ _ _ _ c.loop.invariant
    (end_before _ _ next n none c.in-Ok.ensures.bytes
    (c.in-Ok.ensures.front.short (front_of_8 c.loop.section.order (take n next)
    (omega (arith, length-take-le n next c.in-Ok.ensures.bound)))))

pub returns-in_err-at-2-clause-broken : goal.returns-in_err-at-2-clause-broken
returns-in_err-at-2-clause-broken g c =
    let n = c.in-Ok.len in
    let next = c.read_front.new.front in
    let some : 0 < length (take n next) =
    omega (arith, length-take-le n next c.in-Ok.ensures.bound, c.if-len-eq0.false) in
    let p = err_from_is_err_and c.from_residual-in_err-at-2.result c.from_residual-in_err-at-2.ensures.1 in
    rw (p.1, p.2)
    (broken_block g.row.S.Denot g.S.Sink.takes
    (prepend_known c.args.front.now (g.R.Read.remaining c.args.reader.now)) _ _ _ _ _ c.loop.invariant _ (take n next)
    c.in-Ok.ensures.bytes g.S.Sink.keeps _ _ some c.in_err-at-2.ensures.broken)

pub loop-preserved : goal.loop-preserved
loop-preserved g c =
    let n = c.in-Ok.len in
    let next = c.read_front.new.front in
    next_block g.row.S.Denot g.S.Sink.takes
    (prepend_known c.args.front.now (g.R.Read.remaining c.args.reader.now)) _ _ _ _ _ c.loop.invariant _ (take n next)
    c.in-Ok.ensures.bytes _ _ _ _ c.in_ok-at-2.ensures.moved

pub returns-clause-broken : goal.returns-clause-broken
returns-clause-broken g c =
    some_read g.row.S.Denot g.S.Sink.takes (prepend_known c.args.front.now (g.R.Read.remaining c.args.reader.now))
    _ _ _ _ _ c.loop.invariant

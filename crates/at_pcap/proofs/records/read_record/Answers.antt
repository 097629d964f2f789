use Rattle.std.proofs.Common.{◌≡◌, take, subst, ap, Ok}
use Rattle.std.specs.Io.KnownBytes.{Consumes}
use Rattle.std.specs.Prelude.{IfSome}
use Rattle.at_pcap.specs.Captures.{IsRecordHeader, header_bytes}
use Rattle.at_pcap.proofs.RecordLemmas.{cut_known, fails_known}
use Rattle.at_pcap.proofs.records.read_record.Goals as goal

pub returns-in-Err-clause-fault : goal.returns-in-Err-clause-fault
returns-in-Err-clause-fault g c =
    let read = c.in_ok-len.ensures in
    fails_known c.args.order (g.R.Read.remaining c.args.reader.now) _ c.fill.new.buffer c.in_ok-len.len c.in-Err.fault
    c.fill.auto.buffer read.bound read.bytes read.end c.in-Err.ensures.fault c.in-Err.ensures.cut

pub returns-else-branch-clause-fault : goal.returns-else-branch-clause-fault
returns-else-branch-clause-fault g c =
    let read = c.in_ok-len.ensures in
    let header : IsRecordHeader c.in-Ok-Some.header × (take c.in_ok-len.len c.fill.new.buffer
    ≡ header_bytes c.args.order c.in-Ok-Some.header) =
    subst (λ r. IfSome r (λ s. IsRecordHeader s × (take c.in_ok-len.len c.fill.new.buffer
    ≡ header_bytes c.args.order s)))
    c.in-Ok-Some.field-0-is c.in-Ok-Some.ensures.found in
    let cut = c.in_ok-read_captured.ensures.cut (ap Ok c.if-branch.false) in
    cut_known c.args.order (g.R.Read.remaining c.args.reader.now) _ c.in-Ok-Some.header cut.0 header.0
    (subst (Consumes _ _) header.1 read.bytes) cut.1 cut.2

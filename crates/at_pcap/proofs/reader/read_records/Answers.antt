use Rattle.std.proofs.Common.{◌≡◌, ◌+◌, Ok, length, sym, ap, subst, ◌∙◌}
use Rattle.std.specs.Prelude.{IfSome}
use Rattle.std.specs.Io.KnownBytes.{Consumes, prepend_known}
use Rattle.at_pcap.specs.Captures.{IsRecord, record_bytes, record_of}
use Rattle.at_pcap.specs.Files.{TellsFile}
use Rattle.at_pcap.specs.Frames.{frame_of}
use Rattle.at_pcap.specs.Readings.{place}
use Rattle.std.proofs.lemmas.Result.{err_from_is_err_and}
use Rattle.at_pcap.proofs.FileLemmas.{front_taken, no_header}
use Rattle.at_pcap.proofs.ReadingLemmas.{begin, begun, broken_off, more, starved, whole}
use Rattle.at_pcap.proofs.reader.read_records.Goals as goal

pub loop-init : goal.loop-init
loop-init g c =
    let front = c.args.front.now in
    begin g.row.S.Denot g.S.Sink.takes
    (prepend_known front (g.R.Read.remaining c.args.reader.now)) _ c.in-Ok.file_header _ front c.in-Ok.ensures.found
    (front_taken front (g.R.Read.remaining c.args.reader.now))

pub returns-in-Err-clause-broken : goal.returns-in-Err-clause-broken
returns-in-Err-clause-broken g c =
    no_header g.row.S.Denot g.S.Sink.takes (g.R.Read.remaining c.args.reader.now) c.args.front.now c.in-Err.fault
    c.args.sink.now c.requires.other c.requires.short c.in-Err.ensures.fault

pub returns-in-Ok-None-clause-whole : goal.returns-in-Ok-None-clause-whole
returns-in-Ok-None-clause-whole g c = whole g.row.S.Denot g.S.Sink.takes
    (prepend_known c.args.front.now (g.R.Read.remaining c.args.reader.now)) _ _ _ _ _ c.loop.invariant
    (c.in-Ok-None.ensures.end (ap Ok c.in-Ok-None.field-0-is))

pub returns-in-Err-read_record-clause-broken : goal.returns-in-Err-read_record-clause-broken
returns-in-Err-read_record-clause-broken g c =
    subst (TellsFile g.S.Sink.takes g.S.Sink.keeps
    (prepend_known c.args.front.now (g.R.Read.remaining c.args.reader.now)) _ _)
    (sym c.told_at.ensures)
    (broken_off g.row.S.Denot g.S.Sink.takes
    (prepend_known c.args.front.now (g.R.Read.remaining c.args.reader.now)) _ _ _ _ _ c.loop.invariant
    g.S.Sink.keeps c.in-Err-read_record.error c.in-Err-read_record.ensures.fault)

pub loop-preserved : goal.loop-preserved
loop-preserved g c =
    let header = c.in-Ok-Some.header in
    let bytes = c.read_record.new.buffer.items in
    let read : IsRecord (record_of header bytes) × (header.captured ≡ length bytes)
    × Consumes (g.R.Read.remaining c.loop.reader) (g.R.Read.remaining c.read_record.new.reader)
    (record_bytes c.in-Ok.file_header.order (record_of header bytes)) =
    subst (λ r. IfSome r (λ s. IsRecord (record_of s bytes) × (s.captured ≡ length bytes)
    × Consumes (g.R.Read.remaining c.loop.reader) (g.R.Read.remaining c.read_record.new.reader)
    (record_bytes c.in-Ok.file_header.order (record_of s bytes))))
    c.in-Ok-Some.field-0-is c.in-Ok-Some.ensures.found in
    more g.row.S.Denot g.S.Sink.takes
    (prepend_known c.args.front.now (g.R.Read.remaining c.args.reader.now)) _ _ c.in-Ok.file_header _ _ _ c.loop.at _
    (record_of header bytes) c.loop.invariant read.0 read.2
    (subst (λ f. g.S.Sink.takes c.loop.sink f c.take.new.self)
    (c.of_record.ensures c.deref.result.now ∙ ap (λ l. frame_of c.in-Ok.file_header (record_of header l))
    c.deref.ensures.value) c.in_ok-take-in-Ok-Some.ensures.ok)
    (c.saturating_add-at.ensures ∙ ap (λ n. place (c.loop.at + (16 + n))) (c.from.ensures ∙ read.1))

pub returns-clause-broken : goal.returns-clause-broken
returns-clause-broken g c =
    begun g.row.S.Denot g.S.Sink.takes (prepend_known c.args.front.now (g.R.Read.remaining c.args.reader.now)) _ _ _ _ _
    c.loop.invariant

pub returns-in_err-take-in-Ok-Some-clause-broken : goal.returns-in_err-take-in-Ok-Some-clause-broken
returns-in_err-take-in-Ok-Some-clause-broken g c =
    let p = err_from_is_err_and c.from_residual.result c.from_residual.ensures.1 in
    rw (p.1, p.2)
    (starved g.row.S.Denot g.S.Sink.takes (prepend_known c.args.front.now (g.R.Read.remaining c.args.reader.now))
    _ _ _ _ _ c.loop.invariant g.S.Sink.keeps _ c.in_err-take-in-Ok-Some.ensures.err)

use Rattle.std.specs.Io.KnownBytes.{prepend_known}
use Rattle.at_pcap.proofs.ReadingLemmas.{HasRead}
use Rattle.at_pcap.proofs.reader.read_records.Given as goal

-- the file header and some records were read and taken
abbrev pub invariant-loop : goal.invariant-loop
invariant-loop g l =
    HasRead g.row.S.Denot g.S.Sink.takes (prepend_known l.fn.front (g.R.Read.remaining l.fn.reader))
    (g.R.Read.remaining l.reader) l.file_header l.fn.sink l.sink l.at

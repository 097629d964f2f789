use Rattle.std.specs.Io.KnownBytes.{prepend_known}
use Rattle.at_pcap.specs.Steps.{section_of}
use Rattle.at_pcap.proofs.PcapngLemmas.{HasBlocks}
use Rattle.at_pcap.proofs.pcapng.read_blocks.Given as goal

-- some blocks were read, whose frames were taken
abbrev pub invariant-loop : goal.invariant-loop
invariant-loop g l =
    HasBlocks g.row.S.Denot g.S.Sink.takes (prepend_known l.fn.front (g.R.Read.remaining l.fn.reader))
    (g.R.Read.remaining l.reader) (section_of l.section) l.fn.sink l.sink l.at

use Rattle.at_pcap.proofs.FileHeaderLemmas.{fails_known}
use Rattle.at_pcap.proofs.file_header.read_file_header.Goals as goal

pub returns-in-Err-clause-fault : goal.returns-in-Err-clause-fault
returns-in-Err-clause-fault g c =
    let read = c.in_ok-len.ensures in
    fails_known (g.R.Read.remaining c.args.reader.now) _ c.fill.new.buffer c.in_ok-len.len c.in-Err.fault
    c.fill.auto.buffer read.bound read.bytes read.end c.in-Err.ensures.fault

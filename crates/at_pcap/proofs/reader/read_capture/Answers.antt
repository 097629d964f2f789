use Rattle.at_pcap.proofs.FileLemmas.{none_begun}
use Rattle.at_pcap.proofs.reader.read_capture.Goals as goal

pub returns-in-Err-clause-broken : goal.returns-in-Err-clause-broken
returns-in-Err-clause-broken g c =
    none_begun g.row.S.Denot g.S.Sink.takes (g.R.Read.remaining c.args.reader.now) c.args.sink.now

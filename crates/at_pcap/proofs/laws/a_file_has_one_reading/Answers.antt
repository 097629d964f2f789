use Rattle.at_pcap.proofs.OneFile.{one_file}
use Rattle.at_pcap.proofs.laws.a_file_has_one_reading.Goals as goal

pub returns : goal.returns
returns c = λ all rest more frames others e f is also. one_file all is also

use Rattle.at_name_socket.proofs.FewLemmas.{hears_few}
use Rattle.at_name_socket.proofs.laws.few_packets_are_sent.Goals as goal

pub returns : goal.returns
returns c = hears_few

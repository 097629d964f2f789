use Rattle.at_name_socket.proofs.PacketSteps.{comes_happens}
use Rattle.at_name_socket.proofs.StepLemmas.{passes}
use Rattle.at_name_socket.proofs.laws.a_packet_is_a_happening.Goals as goal

pub returns : goal.returns
returns c = record { comes = comes_happens; nothing = passes }

use Rattle.at_nbp.proofs.PacketLemmas.{one_packet, begins_none, no_fault}
use Rattle.at_nbp.proofs.laws.one_packet_a_spelling.Goals as goal

pub returns : goal.returns
returns c = record { packet = one_packet; begins = begins_none; faultless = no_fault }

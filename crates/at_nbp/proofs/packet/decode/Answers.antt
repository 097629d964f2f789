use Rattle.at_nbp.specs.Packets.{packet_content}
use Rattle.at_nbp.proofs.PacketLemmas.{only_packet, refused}
use Rattle.at_nbp.proofs.packet.decode.Goals as goal

pub returns-clause-only : goal.returns-clause-only
returns-clause-only c = only_packet _ packet_content c.parse.result c.args.input.now c.parse.ensures.found
    c.parse.ensures.fault

pub returns-clause-refused : goal.returns-clause-refused
returns-clause-refused c =
    refused _ packet_content c.parse.result c.args.input.now c.parse.ensures.found c.parse.ensures.fault

use Rattle.at_node.proofs.SentHeard.{DatagramLaws, PacketLaws, heard_as_sent}
use Rattle.at_node.proofs.laws.what_is_sent_is_heard.Goals as goal

pub returns : goal.returns
returns g c =
    let read = c.what_is_written_is_read.ensures in
    let packets = c.what_is_written_is_read-2.ensures in
    let laws : DatagramLaws =
    record {
      reads = read.read;
      alone = read.alone;
      faultless = read.faultless;
      fits = c.what_is_written_fits.ensures;
    } in
    let packet_laws : PacketLaws =
    record { reads = packets.read; alone = packets.alone; faultless = packets.faultless } in
    λ said n to from f o to_fits from_fits ok h. heard_as_sent g.row.A.Denot said n to from f o laws packet_laws
    to_fits from_fits ok h

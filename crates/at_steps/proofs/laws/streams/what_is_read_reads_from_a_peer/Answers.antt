use Rattle.at_steps.proofs.Protocols.Streams.Reading.{read_with}
use Rattle.at_steps.proofs.laws.streams.what_is_read_reads_from_a_peer.Goals as goal

pub returns : goal.returns
returns g c setting history n id count items st told order =
    read_with g.row.A.Denot c.what_is_read_reads_from_a_peer.ensures setting history n id count items st told order

use Rattle.at_steps.proofs.Protocols.Names.Foreign.{others_are_foreign}
use Rattle.at_steps.proofs.Protocols.Names.Passing.{foreign_passes}
use Rattle.at_steps.proofs.laws.names.another_protocols_event_passes.Goals as goal

pub returns : goal.returns
returns g c =
    let A = g.row.A.Denot in
    let foreign = others_are_foreign A in
    record {
      call = foreign.call;
      timer = foreign.timer;
      datagram = foreign.datagram c.the_protocol_is_read_as_written.ensures;
      passes = λ setting history n act o st foreign. foreign_passes A setting history n act st o foreign;
    }

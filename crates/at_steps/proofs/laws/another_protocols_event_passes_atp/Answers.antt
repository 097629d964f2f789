use Rattle.at_steps.proofs.Protocols.Atp.Foreign.{others_are_foreign}
use Rattle.at_steps.proofs.Protocols.Atp.Passing.{foreign_passes}
use Rattle.at_steps.proofs.laws.another_protocols_event_passes_atp.Goals as goal

pub returns : goal.returns
returns g c =
    let A = g.row.A.Denot in
    let foreign = others_are_foreign A in
    record {
      call = foreign.call;
      timer = foreign.timer;
      datagram = foreign.datagram c.the_protocol_is_read_as_written.ensures;
      passes = λ history n act o st foreign. foreign_passes A history n act st o foreign;
    }

use Rattle.at_atp_frame.specs.Frames.{spelled_all}
use Rattle.at_transaction_socket.specs.ServiceSocket.{sent_by_reply}
use Rattle.at_event.proofs.PostLemmas.{posts}
use Rattle.at_transaction_socket.proofs.service_socket.hand_up.Goals as goal
use Rattle.at_ddp.specs.Protocols.{atp_kind}

pub returns-in-Ok-clause-replied : goal.returns-in-Ok-clause-replied
returns-in-Ok-clause-replied g c =
    let r = c.in-Ok.ensures.replied in (
      r.0,
      r.1,
      r.2,
      posts c.send_from.new.self c.reply.new.out (spelled_all (sent_by_reply c.args.records.now c.args.key r.0))
          c.args.out.now.items c.args.own atp_kind r.3 c.send_from.ensures.items c.send_from.ensures.from
          c.send_from.ensures.kind,
    )

use Rattle.std.proofs.Common.{Some, inl, inr, refl, subst, ◌∙◌}
use Rattle.at_atp_frame.specs.Frames.{content}
use Rattle.at_event.proofs.OutcomeLemmas.{comes_refused, step_comes, step_over}
use Rattle.at_event.proofs.ServedLemmas.{not_served}
use Rattle.at_event.specs.Outcomes.{Comes, IsStep, Outcome, over}
use Rattle.at_event.specs.declared.service.Reply.TheVariants.{Later}
use Rattle.at_transaction_socket.specs.ServiceSocket.{service_heard}
use Rattle.at_transaction_socket.specs.TransactionSockets.{TransactionState}
use Rattle.at_zone_socket.specs.AtpHearing.{HearsAt, Service}
use Rattle.at_zone_socket.specs.AtpParts.{AtpState, with_transactions}
use Rattle.at_zone_socket.proofs.FaultLemmas.{atp_number}
use Rattle.at_zone_socket.proofs.Opened.{opened}
use Rattle.at_zone_socket.proofs.atp_part.AtpPart.hear_request.Goals as goal

pub returns-in-Err : goal.returns-in-Err
returns-in-Err g c =
    let number = atp_number c.in-Err.fault _ c.in-Err.ensures.fault in (
      Later,
      comes_refused (HearsAt Later c.args.seat c.args.self.now c.args.packet.now (Some Service))
          c.args.self.now c.args.out.now.items c.refused.result c.number.result number.0
          (c.number.ensures ∙ number.1) c.refused.ensures.report
          (inr (record {
            fault = c.in-Err.fault;
            number = number.0;
            first = c.in-Err.ensures.fault;
            numbered = number.1;
            outcome = refl;
          })),
      not_served _ c.refused.result Later c.args.service.now c.refused.ensures.not_asked,
    )

pub returns-in-Ok : goal.returns-in-Ok
returns-in-Ok g c =
    let h = c.hear_at_service in
    let r = h.ensures in
    let d = c.args.packet.now in
    let f = content c.in-Ok.packet.frame in
    let inside : AtpState = opened c.self.view_is in
    let items = c.args.out.now.items in
    let o : Outcome g.row.A.Denot TransactionState = service_heard r.0 c.args.seat inside.transactions d.from f in
    let step : IsStep o inside.transactions items h.result h.new.self h.new.out.items =
    rw (c.in-Ok.ensures.seat, c.in-Ok.ensures.from) at r.1 in (
      r.0,
      subst (λ (a : AtpState). Comes (HearsAt r.0 c.args.seat a d (Some Service)) a items h.result
          (with_transactions inside h.new.self) h.new.out.items) c.self.view_is
          (step_comes (HearsAt r.0 c.args.seat inside d (Some Service)) inside items
          (over (with_transactions inside) o) h.result (with_transactions inside h.new.self) h.new.out.items
          (inl (record { packet = f; spelled = c.in-Ok.ensures.found; outcome = refl }))
          (step_over (with_transactions inside) inside inside.transactions refl items h.result h.new.self
          h.new.out.items o step)),
      r.2,
    )

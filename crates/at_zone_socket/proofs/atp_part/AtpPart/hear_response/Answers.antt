use Rattle.std.proofs.Common.{Some, inl, inr, refl, ◌∙◌}
use Rattle.at_atp_frame.specs.Frames.{content}
use Rattle.at_event.proofs.OutcomeLemmas.{comes_refused, comes_wider}
use Rattle.at_event.specs.Outcomes.{Comes}
use Rattle.at_zone_socket.specs.AtpHearing.{AtRequester, HearsAt, Requester}
use Rattle.at_zone_socket.proofs.FaultLemmas.{atp_number}
use Rattle.at_zone_socket.proofs.atp_part.AtpPart.hear_response.Goals as goal

pub returns-in-Err-clause-comes : goal.returns-in-Err-clause-comes
returns-in-Err-clause-comes g c = λ said.
    let number = atp_number c.in-Err.fault _ c.in-Err.ensures.fault in
    comes_refused (HearsAt said c.args.seat c.args.self.now c.args.packet.now (Some Requester))
    c.args.self.now c.args.out.now.items c.refused.result c.number.result number.0
    (c.number.ensures ∙ number.1) c.refused.ensures.report
    (inr (record {
      fault = c.in-Err.fault;
      number = number.0;
      first = c.in-Err.ensures.fault;
      numbered = number.1;
      outcome = refl;
    }))

pub returns-in-Ok-clause-comes : goal.returns-in-Ok-clause-comes
returns-in-Ok-clause-comes g c = λ said.
    let p = c.in-Ok.packet in
    let came : Comes (AtRequester p.seat c.args.self.now p.from (content p.frame)) c.args.self.now
    c.args.out.now.items c.hear_at_requester.result c.hear_at_requester.new.self c.hear_at_requester.new.out.items =
    c.hear_at_requester.ensures.comes in
    comes_wider (AtRequester c.args.seat c.args.self.now (c.args.packet.now).from (content p.frame))
    (HearsAt said c.args.seat c.args.self.now c.args.packet.now (Some Requester)) c.args.self.now
    c.args.out.now.items c.hear_at_requester.result c.hear_at_requester.new.self c.hear_at_requester.new.out.items
    (λ o at. inl (record { packet = content p.frame; spelled = c.in-Ok.ensures.found; outcome = at }))
    (rw (c.in-Ok.ensures.seat, c.in-Ok.ensures.from) at came)

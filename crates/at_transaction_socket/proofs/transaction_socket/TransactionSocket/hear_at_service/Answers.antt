use Rattle.std.proofs.Common.{◌≡◌, refl, sym, ap, subst}
use Rattle.at_atp_frame.specs.Frames.{content}
use Rattle.at_transaction_socket.specs.TransactionSockets.{TransactionState}
use Rattle.at_event.specs.Outcomes.{IsStep, Outcome}
use Rattle.at_transaction_socket.specs.ServiceSocket.{service_asked, service_heard}
use Rattle.at_event.specs.declared.service.Reply.TheVariants.{Later}
use Rattle.at_event.proofs.ServedLemmas.{not_served}
use Rattle.at_transaction_socket.proofs.ResponderLemmas.{not_frame, not_release, service_ignores, service_release}
use Rattle.at_transaction_socket.proofs.transaction_socket.TransactionSocket.hear_at_service.Goals as goal

pub returns-in-Release : goal.returns-in-Release
returns-in-Release g c =
    let p = c.args.packet.now in
    let is_now = ap (λ (a : TransactionState). record a { service_responder = c.release.new.records }) c.self.view_is
    in (
      Later,
      subst (λ (x : TransactionState). IsStep (service_heard Later p.seat c.args.self.now p.from (content p.frame))
          c.args.self.now c.args.out.now.items c.release.result x c.release.new.out.items) (sym is_now)
          (service_release g.row.A.Denot Later p.seat c.args.self.now p.from (content p.frame) c.args.out.now.items
          c.release.new.out.items c.self.inside.service_responder c.release.new.records c.at-own.result
          c.release.result (rw c.in-Release.is refl)
          (ap (λ (a : TransactionState). a.service_responder) c.self.view_is) c.at-own.ensures
          c.release.ensures.report c.release.ensures.state c.release.ensures.sent),
      not_served _ c.release.result Later c.args.service.now c.release.ensures.not_asked,
    )

pub returns-in_default-frame : goal.returns-in_default-frame
returns-in_default-frame g c = (
  Later,
  service_ignores g.row.A.Denot Later c.args.packet.now.seat c.args.self.now c.args.packet.now.from
      (content c.args.packet.now.frame) c.args.out.now.items
      (not_release c.args.packet.now.frame c.in_default.not-Release)
      (not_frame c.args.packet.now.frame c.in_default-frame.not-Request),
  refl,
)

pub returns : goal.returns
returns g c =
    let p = c.args.packet.now in
    let now : TransactionState = c.args.self.now in
    let items = c.args.out.now.items in
    let r = c.give_request.ensures in
    let step = r.1 p.seat now (ap (λ (a : TransactionState). a.service_responder) (sym c.self.view_is))
    (sym c.at-own.ensures) in
    let same = ap (λ (a : TransactionState). record a { service_responder = c.give_request.new.records })
    c.self.view_is in
    let asks : service_heard {A = g.row.A.Denot} r.0 p.seat now p.from (content p.frame)
    ≡ service_asked p.seat now p.from (content p.frame) c.in-Request.user c.in-Request.data_.now r.0 =
    rw c.in-Request.is refl in (
      r.0,
      subst (λ (x : TransactionState). IsStep (service_heard r.0 p.seat now p.from (content p.frame)) now items
          c.give_request.result x c.give_request.new.out.items) (sym same)
          (subst (λ (o : Outcome g.row.A.Denot TransactionState). IsStep o now items c.give_request.result
          (record now { service_responder = c.give_request.new.records }) c.give_request.new.out.items) (sym asks)
          step),
      r.2,
    )

use Rattle.std.proofs.Common.{◌≡◌, None, Some, refl, ap, sym, ◌∙◌, subst}
use Rattle.at_atp_frame.specs.Frames.{content}
use Rattle.at_event.specs.Outcomes.{Comes}
use Rattle.at_event.proofs.OutcomeLemmas.{comes_ignored, step_comes}
use Rattle.at_transaction_socket.proofs.ResponderLemmas.{not_frame, not_release}
use Rattle.at_zone_socket.specs.ZoneSocket.{AtZones, zone_asked}
use Rattle.at_zone_socket.specs.ZoneSockets.{ZoneState}
use Rattle.at_zone_socket.proofs.ResponderLemmas.{bad_request, good_request, no_request, zone_release}
use Rattle.at_zone_socket.proofs.zone_socket.ZoneSocket.hear.Goals as goal

pub returns-in_default-clause-comes : goal.returns-in_default-clause-comes
returns-in_default-clause-comes g c = λ tables is.
    let both : None ≡ Some tables = sym c.in_default.is ∙ ap (λ (z : ZoneState). z.tables) c.self.view_is ∙ is in
    absurd (cc)

pub returns-in_default-frame-2-clause-comes : goal.returns-in_default-frame-2-clause-comes
returns-in_default-frame-2-clause-comes g c = λ tables is.
    let p = c.args.packet.now in
    comes_ignored (AtZones p.seat c.args.self.now p.from tables (content p.frame)) c.args.self.now c.args.out.now.items
    (no_request g.row.A.Denot p.seat c.args.self.now p.from tables (content p.frame)
    (not_release p.frame c.in_default-frame.not-Release) (not_frame p.frame c.in_default-frame-2.not-Request))

pub returns-in-Ok-clause-comes : goal.returns-in-Ok-clause-comes
returns-in-Ok-clause-comes g c = λ tables is.
    let p = c.args.packet.now in
    let now : ZoneState = c.args.self.now in
    let items = c.args.out.now.items in
    let some : Some c.in-Some.tables ≡ Some tables = sym c.in-Some.is
    ∙ ap (λ (z : ZoneState). z.tables) c.self.view_is ∙ is in
    let its : c.in-Some.tables ≡ tables = cc in
    let step = c.serve_request.ensures.step p.seat now (ap (λ (z : ZoneState). z.zone_responder) (sym c.self.view_is))
    (sym c.at-own.ensures) in
    let same = ap (λ (z : ZoneState). record z { zone_responder = c.serve_request.new.records }) c.self.view_is in
    let asks : AtZones {A = g.row.A.Denot} p.seat now p.from tables (content p.frame)
    (zone_asked p.seat now p.from (content p.frame) c.get.result.now c.in-Ok.start) =
    rw (c.in-Request.is, c.get.ensures, its) (good_request g.row.A.Denot p.seat now p.from tables c.in-Request.mask
    c.in-Request.xo c.in-Request.timer c.in-Request.tid c.in-Request.user c.in-Request.data_.now c.in-Ok.which
    c.in-Ok.start c.in-Ok.ensures.found) in
    subst (λ (x : ZoneState). Comes (AtZones p.seat now p.from tables (content p.frame)) now items
    c.serve_request.result x c.serve_request.new.out.items) (sym same)
    (step_comes (AtZones p.seat now p.from tables (content p.frame)) now items
    (zone_asked p.seat now p.from (content p.frame) c.get.result.now c.in-Ok.start) c.serve_request.result
    (record now { zone_responder = c.serve_request.new.records }) c.serve_request.new.out.items asks step)

pub returns-in-Err-clause-comes : goal.returns-in-Err-clause-comes
returns-in-Err-clause-comes g c = λ tables is.
    let p = c.args.packet.now in
    comes_ignored (AtZones p.seat c.args.self.now p.from tables (content p.frame)) c.args.self.now c.args.out.now.items
    (rw c.in-Request.is (bad_request g.row.A.Denot p.seat c.args.self.now p.from tables c.in-Request.mask
    c.in-Request.xo c.in-Request.timer c.in-Request.tid c.in-Request.user c.in-Request.data_.now
    (λ which start h. absurd (cc (c.in-Err.ensures.only which start h)))))

pub returns-in-Release-clause-comes : goal.returns-in-Release-clause-comes
returns-in-Release-clause-comes g c = λ tables is.
    let p = c.args.packet.now in
    let is_now = ap (λ (z : ZoneState). record z { zone_responder = c.release.new.records }) c.self.view_is in
    subst (λ (x : ZoneState). Comes (AtZones p.seat c.args.self.now p.from tables (content p.frame)) c.args.self.now
    c.args.out.now.items c.release.result x c.release.new.out.items) (sym is_now)
    (zone_release g.row.A.Denot p.seat c.args.self.now p.from tables (content p.frame) c.args.out.now.items
    c.release.new.out.items c.self.inside.zone_responder c.release.new.records c.at-own.result c.release.result
    (rw c.in-Release.is refl) (ap (λ (z : ZoneState). z.zone_responder) c.self.view_is) c.at-own.ensures
    c.release.ensures.report c.release.ensures.state c.release.ensures.sent)

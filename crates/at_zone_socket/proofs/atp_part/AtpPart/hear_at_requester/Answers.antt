use Rattle.std.proofs.Common.{◌≡◌, Some, refl, sym, subst, ◌∙◌}
use Rattle.at_atp_frame.specs.Frames.{Content, content}
use Rattle.at_event.specs.Outcomes.{Comes}
use Rattle.at_transaction_socket.specs.declared.incoming.Incoming.{Incoming}
use Rattle.at_zone_socket.specs.AtpHearing.{AtRequester}
use Rattle.at_zone_socket.specs.AtpParts.{AtpState, both}
use Rattle.at_zone_socket.specs.Readings.{reading_of}
use Rattle.at_zone_socket.specs.ZoneSockets.{ZoneState}
use Rattle.at_zone_socket.proofs.Opened.{opened}
use Rattle.at_zone_socket.proofs.RequesterLemmas.{comes_other, no_response}
use Rattle.at_zone_socket.proofs.atp_part.AtpPart.hear_at_requester.Goals as goal

pub returns-in_default-clause-comes : goal.returns-in_default-clause-comes
returns-in_default-clause-comes g c =
    let p = c.args.packet.now in
    let f : Content = content p.frame in
    let inside : AtpState = opened c.self.view_is in
    let h = c.hear_other in
    subst (λ (a : AtpState). Comes (AtRequester p.seat a p.from f) a c.args.out.now.items h.result
    (both h.new.self inside.zones) h.new.out.items) c.self.view_is
    (comes_other g.row.A.Denot p.seat inside p.from f
    (no_response g.row.A.Denot inside p.from p.frame c.in_default.not-Response) c.args.out.now.items h.new.out.items
    h.result h.new.self h.ensures.step)

pub returns-in-Some-clause-comes : goal.returns-in-Some-clause-comes
returns-in-Some-clause-comes g c =
    let p = c.args.packet.now in
    let f : Content = content p.frame in
    let inside : AtpState = opened c.self.view_is in
    let h = c.hear_page in
    let before : AtpState = both inside.transactions
    (record c.take_reading.new.self { reading = Some (reading_of c.in-Some.reading) }) in
    let comes = subst (λ (q : Incoming). Comes (AtRequester q.seat before q.from (content q.frame)) before
    c.args.out.now.items h.result (both h.new.transactions h.new.self) h.new.out.items) c.in-Some.ensures.same
    h.ensures.comes in
    let same = (λ i. both inside.transactions (sym c.in-Some.ensures.received i)) ∙ c.self.view_is in
    subst (λ (a : AtpState). Comes (AtRequester p.seat a p.from f) a c.args.out.now.items h.result
    (both h.new.transactions h.new.self) h.new.out.items) same comes

pub returns-in-None-clause-comes : goal.returns-in-None-clause-comes
returns-in-None-clause-comes g c =
    let p = c.args.packet.now in
    let f : Content = content p.frame in
    let inside : AtpState = opened c.self.view_is in
    let h = c.hear_other-in-None in
    let zones : c.take_reading.new.self ≡ inside.zones = c.in-None.ensures.unchanged refl in
    subst (λ (z : ZoneState). Comes (AtRequester p.seat c.args.self.now p.from f) c.args.self.now c.args.out.now.items
    h.result (both h.new.self z) h.new.out.items) (sym zones)
    (subst (λ (a : AtpState). Comes (AtRequester p.seat a p.from f) a c.args.out.now.items h.result
    (both h.new.self inside.zones) h.new.out.items) c.self.view_is
    (comes_other g.row.A.Denot p.seat inside p.from f (c.in-None.ensures.other refl) c.args.out.now.items
    h.new.out.items h.result h.new.self h.ensures.step))

use Rattle.std.proofs.Common.{refl, sym, subst, ◌∙◌}
use Rattle.std.specs.Prelude.{option_map}
use Rattle.at_atp_frame.specs.Frames.{content}
use Rattle.at_event.proofs.OutcomeLemmas.{comes_over, comes_refused, comes_wider}
use Rattle.at_event.specs.Outcomes.{Comes, Over}
use Rattle.at_event.specs.declared.Report.TheVariants.{Ignored}
use Rattle.at_zone_socket.specs.AtpHearing.{HearsAt, Zones}
use Rattle.at_zone_socket.specs.AtpParts.{AtpState, with_zones}
use Rattle.at_zone_socket.specs.ZoneSocket.{AtZones}
use Rattle.at_zone_socket.proofs.FaultLemmas.{atp_number}
use Rattle.at_zone_socket.proofs.Opened.{opened}
use Rattle.at_zone_socket.proofs.ResponderLemmas.{for_no_router, router_fault, router_packet}
use Rattle.at_zone_socket.proofs.atp_part.AtpPart.hear_zone_request.Goals as goal
use Rattle.at_ddp.proofs.CaseLemmas.{some_of, none_of}

pub returns-then-not-is_router-clause-comes : goal.returns-then-not-is_router-clause-comes
returns-then-not-is_router-clause-comes g c = λ said.
    let inside : AtpState = opened c.self.view_is in
    let none = none_of inside.zones.tables (sym c.is_router.ensures ∙ c.if-not-is_router.true) in
    subst (λ (a : AtpState). Comes (HearsAt said c.args.seat a c.args.packet.now (option_map Zones a.zones.tables)) a
    c.args.out.now.items Ignored a c.args.out.now.items) c.self.view_is
    (for_no_router g.row.A.Denot said c.args.seat inside c.args.packet.now c.args.out.now.items inside.zones.tables
    none)

pub returns-in-Err-clause-comes : goal.returns-in-Err-clause-comes
returns-in-Err-clause-comes g c = λ said.
    let inside : AtpState = opened c.self.view_is in
    let d = c.args.packet.now in
    let items = c.args.out.now.items in
    let number = atp_number c.in-Err.fault _ c.in-Err.ensures.fault in
    let some = some_of inside.zones.tables (sym c.is_router.ensures ∙ c.if-not-is_router.false) in
    subst (λ (a : AtpState). Comes (HearsAt said c.args.seat a d (option_map Zones a.zones.tables)) a items
    c.refused.result a items) c.self.view_is
    (comes_refused (HearsAt said c.args.seat inside d (option_map Zones inside.zones.tables)) inside items
    c.refused.result c.number.result number.0 (c.number.ensures ∙ number.1) c.refused.ensures.report
    (router_fault g.row.A.Denot said c.args.seat inside d inside.zones.tables some.0 some.1 _ (record {
      fault = c.in-Err.fault;
      number = number.0;
      first = c.in-Err.ensures.fault;
      numbered = number.1;
      outcome = refl;
    })))

pub returns-in-Ok-clause-comes : goal.returns-in-Ok-clause-comes
returns-in-Ok-clause-comes g c = λ said.
    let inside : AtpState = opened c.self.view_is in
    let h = c.hear in
    let d = c.args.packet.now in
    let f = content c.in-Ok.packet.frame in
    let items = c.args.out.now.items in
    let some = some_of inside.zones.tables (sym c.is_router.ensures ∙ c.if-not-is_router.false) in
    let came : Comes (AtZones c.args.seat inside.zones d.from some.0 f) inside.zones items h.result h.new.self
    h.new.out.items =
    rw (c.in-Ok.ensures.seat, c.in-Ok.ensures.from) at (h.ensures.comes some.0 some.1) in
    subst (λ (a : AtpState). Comes (HearsAt said c.args.seat a d (option_map Zones a.zones.tables)) a items h.result
    (with_zones inside h.new.self) h.new.out.items) c.self.view_is
    (comes_wider (Over (with_zones inside) (AtZones c.args.seat inside.zones d.from some.0 f))
    (HearsAt said c.args.seat inside d (option_map Zones inside.zones.tables)) inside items h.result
    (with_zones inside h.new.self) h.new.out.items
    (λ o at. router_packet g.row.A.Denot said c.args.seat inside d inside.zones.tables some.0 some.1 o f
    c.in-Ok.ensures.found at)
    (comes_over (with_zones inside) inside inside.zones refl items h.result h.new.self h.new.out.items
    (AtZones c.args.seat inside.zones d.from some.0 f) came))

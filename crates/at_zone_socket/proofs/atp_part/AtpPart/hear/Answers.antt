use Rattle.std.proofs.Common.{◌≡◌, ℕ, refl, sym, ap, subst, ◌∙◌, arith}
use Rattle.std.specs.Prelude.{◌==◌, option_map, Some, None, false}
use Rattle.std.proofs.lemmas.Bool.{eq-eqb, ne_eqb}
use Rattle.at_ddp.specs.Datagram.{Content}
use Rattle.at_zone_socket.specs.AtpHearing.{HearsAt, HearsAtp, Requester, Service, Zones, atp_socket}
use Rattle.at_zone_socket.specs.AtpParts.{AtpState}
use Rattle.at_event.specs.Outcomes.{Comes}
use Rattle.at_event.specs.declared.service.Reply.TheVariants.{Later}
use Rattle.at_zone_socket.proofs.ListLemmas.{lists_at_asker}
use Rattle.at_event.proofs.OutcomeLemmas.{comes_ignored}
use Rattle.at_event.proofs.ServedLemmas.{not_served}
use Rattle.at_zone_socket.proofs.atp_part.AtpPart.hear.Goals as goal

for_requester : (a : AtpState) (socket : ℕ) → socket ≡ 128 → atp_socket a socket ≡ Some Requester
for_requester a socket e = rw (eq-eqb socket 128 e) refl

for_service : (a : AtpState) (socket : ℕ) → socket ≡ 129 → atp_socket a socket ≡ Some Service
for_service a socket e =
    let apart : (socket == 128)
    ≡ false = ne_eqb socket 128 (λ f. let wrong : ◌≡◌ {A = ℕ} 129 128 = sym e ∙ f in omega arith) in
    rw (apart, eq-eqb socket 129 e) refl

not_asker : (socket : ℕ) → socket ≡ 6 → (socket == 128) ≡ false
not_asker socket e = ne_eqb socket 128 (λ f. let wrong : ◌≡◌ {A = ℕ} 6 128 = sym e ∙ f in omega arith)

for_router : (a : AtpState) (socket : ℕ) → socket ≡ 6 → atp_socket a socket ≡ option_map Zones a.zones.tables
for_router a socket e =
    let apart = not_asker socket e in
    let other : (socket == 129)
    ≡ false = ne_eqb socket 129 (λ f. let wrong : ◌≡◌ {A = ℕ} 6 129 = sym e ∙ f in omega arith) in
    rw (apart, other, eq-eqb socket 6 e) refl

for_nobody : (a : AtpState) (socket : ℕ) → (socket ≡ 128 → ⊥) → (socket ≡ 129 → ⊥) → (socket ≡ 6 → ⊥)
    → atp_socket a socket ≡ None
for_nobody a socket x y z = rw (ne_eqb socket 128 x, ne_eqb socket 129 y, ne_eqb socket 6 z) refl

pub returns-clause-heard : goal.returns-clause-heard
returns-clause-heard g c =
    let d = c.args.packet.now in
    let socket : d.to.socket ≡ c.datagram-datagram.result.to.socket = ap (λ (d : Content). d.to.socket)
    (sym c.datagram-datagram.ensures) in (
      Later,
      comes_ignored (HearsAtp Later c.args.seat c.args.self.now d) c.args.self.now c.args.out.now.items
          (rw (for_nobody c.args.self.now d.to.socket (λ is. c.if-datagram.false (sym socket ∙ is))
          (λ is. c.if-datagram-2.false (sym socket ∙ is))
          (λ is. c.if-datagram-eq-ZONE_SOCKET.false (sym socket ∙ is))) refl),
      refl,
    )

pub returns-then-datagram-clause-heard : goal.returns-then-datagram-clause-heard
returns-then-datagram-clause-heard g c =
    let d = c.args.packet.now in
    let socket : d.to.socket ≡ c.datagram-datagram.result.to.socket = ap (λ (d : Content). d.to.socket)
    (sym c.datagram-datagram.ensures) in (
      Later,
      subst (λ socket. Comes (HearsAt Later c.args.seat c.args.self.now d socket)
          c.args.self.now c.args.out.now.items c.hear_response.result c.hear_response.new.self
          c.hear_response.new.out.items)
          (sym (for_requester c.args.self.now d.to.socket (socket ∙ c.if-datagram.true)))
          (c.hear_response.ensures.comes Later),
      not_served _ c.hear_response.result Later c.args.service.now c.hear_response.ensures.not_asked,
    )

pub returns-then-datagram-2-clause-heard : goal.returns-then-datagram-2-clause-heard
returns-then-datagram-2-clause-heard g c =
    let r = c.hear_request.ensures in
    let d = c.args.packet.now in
    let socket : d.to.socket ≡ c.datagram-datagram.result.to.socket = ap (λ (d : Content). d.to.socket)
    (sym c.datagram-datagram.ensures) in (
      r.0,
      subst (λ socket. Comes (HearsAt r.0 c.args.seat c.args.self.now d socket)
          c.args.self.now c.args.out.now.items c.hear_request.result c.hear_request.new.self
          c.hear_request.new.out.items)
          (sym (for_service c.args.self.now d.to.socket (socket ∙ c.if-datagram-2.true))) r.1,
      r.2,
    )

pub returns-then-datagram-eq-ZONE_SOCKET-clause-heard : goal.returns-then-datagram-eq-ZONE_SOCKET-clause-heard
returns-then-datagram-eq-ZONE_SOCKET-clause-heard g c =
    let d = c.args.packet.now in
    let socket : d.to.socket ≡ c.datagram-datagram.result.to.socket = ap (λ (d : Content). d.to.socket)
    (sym c.datagram-datagram.ensures) in (
      Later,
      subst (λ socket. Comes (HearsAt Later c.args.seat c.args.self.now d socket)
          c.args.self.now c.args.out.now.items c.hear_zone_request.result c.hear_zone_request.new.self
          c.hear_zone_request.new.out.items)
          (sym (for_router c.args.self.now d.to.socket (socket ∙ c.if-datagram-eq-ZONE_SOCKET.true)))
          (c.hear_zone_request.ensures.comes Later),
      not_served _ c.hear_zone_request.result Later c.args.service.now c.hear_zone_request.ensures.not_asked,
    )

pub returns-then-datagram-eq-ZONE_SOCKET-clause-listed : goal.returns-then-datagram-eq-ZONE_SOCKET-clause-listed
returns-then-datagram-eq-ZONE_SOCKET-clause-listed g c = λ which names tells.
    let d = c.args.packet.now in
    let zones : d.to.socket ≡ 6 = ap (λ (d : Content). d.to.socket) (sym c.datagram-datagram.ensures)
    ∙ c.if-datagram-eq-ZONE_SOCKET.true in
    lists_at_asker g.row.A.Denot Later c.args.seat c.args.self.now d c.args.out.now.items
    c.hear_zone_request.new.out.items c.hear_zone_request.result c.hear_zone_request.new.self
    (subst (λ socket. Comes (HearsAt Later c.args.seat c.args.self.now d socket) c.args.self.now c.args.out.now.items
    c.hear_zone_request.result c.hear_zone_request.new.self c.hear_zone_request.new.out.items)
    (sym (for_router c.args.self.now d.to.socket zones)) (c.hear_zone_request.ensures.comes Later))
    (not_asker d.to.socket zones) which names tells

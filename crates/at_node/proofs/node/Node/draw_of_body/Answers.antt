use Rattle.std.proofs.Common.{◌≡◌, ◌∙◌, true, false, ap, subst, sym}
use Rattle.std.specs.Prelude.{IfSome}
use Rattle.std.proofs.lemmas.Bool.{true≢false}
use Rattle.at_ddp.specs.Datagram.{Content as Datagram, content as written}
use Rattle.at_packet.specs.Bodies.{datagram_of}
use Rattle.at_node.specs.Nodes.{NodeState}
use Rattle.at_node.specs.Numbers.{DrawsIt}
use Rattle.at_node.proofs.BodyLemmas.{adsp_of, atp_of, for_seat, is_for}
use Rattle.at_node.proofs.DrawLemmas.{for_me, it_draws}
use Rattle.at_node.proofs.node.Node.draw_of_body.Goals as goal

pub returns-then-not-is_for-clause-only : goal.returns-then-not-is_for-clause-only
returns-then-not-is_for-clause-only g c draw h =
    let n : NodeState = c.args.self.now in
    let d : Datagram = datagram_of c.args.body.now in
    let other : is_for n.seat d ≡ false = for_seat c.self.inside.seat n.seat (written c.datagram-datagram.result) d
    c.is_for.result false c.is_for.ensures c.if-not-is_for.true (ap (λ (x : NodeState). x.seat) c.self.view_is)
    c.datagram-datagram.ensures in
    absurd (true≢false (sym (for_me n d h.0) ∙ other))

pub returns-in-Atp-clause-found : goal.returns-in-Atp-clause-found
returns-in-Atp-clause-found g c =
    let n : NodeState = c.args.self.now in
    let d : Datagram = c.in-Atp.packet in
    let its = atp_of c.args.body.now d c.in-Atp.is c.requires in
    let mine : is_for n.seat d ≡ true = for_seat c.self.inside.seat n.seat (written c.datagram-datagram.result) d
    c.is_for.result true c.is_for.ensures c.if-not-is_for.false (ap (λ (x : NodeState). x.seat) c.self.view_is)
    (c.datagram-datagram.ensures ∙ its.0) in
    subst (λ (d : Datagram). IfSome c.draw_of_response.result (λ draw. DrawsIt n d draw)) (sym its.0)
    (it_draws n d c.draw_of_response.result mine c.draw_of_response.ensures.found)

pub returns-in-Atp-clause-only : goal.returns-in-Atp-clause-only
returns-in-Atp-clause-only g c draw h =
    let n : NodeState = c.args.self.now in
    let its = atp_of c.args.body.now c.in-Atp.packet c.in-Atp.is c.requires in
    let draws = subst (λ d. DrawsIt n d draw) its.0 h in
    c.draw_of_response.ensures.only draw draws.1

pub returns-in-Adsp-clause-found : goal.returns-in-Adsp-clause-found
returns-in-Adsp-clause-found g c =
    let n : NodeState = c.args.self.now in
    let d : Datagram = c.in-Adsp.packet in
    let its = adsp_of c.args.body.now d c.in-Adsp.is c.requires in
    let mine : is_for n.seat d ≡ true = for_seat c.self.inside.seat n.seat (written c.datagram-datagram.result) d
    c.is_for.result true c.is_for.ensures c.if-not-is_for.false (ap (λ (x : NodeState). x.seat) c.self.view_is)
    (c.datagram-datagram.ensures ∙ its.0) in
    subst (λ (d : Datagram). IfSome c.draw_of_segment.result (λ draw. DrawsIt n d draw)) (sym its.0)
    (it_draws n d c.draw_of_segment.result mine c.draw_of_segment.ensures.found)

pub returns-in-Adsp-clause-only : goal.returns-in-Adsp-clause-only
returns-in-Adsp-clause-only g c draw h =
    let n : NodeState = c.args.self.now in
    let its = adsp_of c.args.body.now c.in-Adsp.packet c.in-Adsp.is c.requires in
    let draws = subst (λ d. DrawsIt n d draw) its.0 h in
    c.draw_of_segment.ensures.only draw draws.1

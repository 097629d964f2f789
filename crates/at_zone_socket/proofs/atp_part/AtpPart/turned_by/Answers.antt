use Rattle.std.proofs.Common.{◌≡◌, true, ap, subst, sym, ◌∙◌}
use Rattle.std.specs.Prelude.{◌==◌}
use Rattle.std.proofs.lemmas.Bool.{eq-eqb}
use Rattle.std.proofs.lemmas.Option.{IfSome_then}
use Rattle.at_ddp.specs.Datagram.{Content as Datagram, content as written}
use Rattle.at_atp_frame.specs.Frames.{Content, content}
use Rattle.at_zone_socket.specs.AtpParts.{AtpState}
use Rattle.at_zone_socket.specs.Turning.{TurnsPage}
use Rattle.at_zone_socket.proofs.TurningLemmas.{beginning_turns, turning_begins}
use Rattle.at_zone_socket.proofs.atp_part.AtpPart.turned_by.Goals as goal

pub returns-in-Ok-clause-found : goal.returns-in-Ok-clause-found
returns-in-Ok-clause-found g c =
    let a : AtpState = c.args.self.now in
    let d : Datagram = c.args.packet.now in
    let p = c.in-Ok.packet in
    let f : Content = content p.frame in
    let socket : (d.to.socket == 128) ≡ true = ap (λ (d : Datagram). d.to.socket == 128)
    (sym c.datagram-datagram.ensures)
    ∙ eq-eqb (written c.datagram-datagram.result).to.socket 128 c.if-datagram.false in
    IfSome_then c.draw_of_page.result c.draw_of_page.ensures.found (λ tid begins. record {
      socket = socket;
      packet = f;
      spelled = c.in-Ok.ensures.found;
      turns = subst (λ from. TurnsPage a from f tid) c.in-Ok.ensures.from
          (beginning_turns g.row.A.Denot p.seat a p.from f tid begins);
    })

pub returns-in-Ok-clause-only : goal.returns-in-Ok-clause-only
returns-in-Ok-clause-only g c tid t =
    let a : AtpState = c.args.self.now in
    let p = c.in-Ok.packet in
    let f : Content = content p.frame in
    let packet : f ≡ t.packet = c.in-Ok.ensures.only t.packet t.spelled in
    let b = turning_begins g.row.A.Denot p.seat a p.from f tid
    (subst (λ from. TurnsPage a from f tid) (sym c.in-Ok.ensures.from)
    (subst (λ (x : Content). TurnsPage a c.args.packet.now.from x tid) (sym packet) t.turns)) in
    c.draw_of_page.ensures.only b.0 b.1 tid b.2

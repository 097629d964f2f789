use Rattle.std.proofs.Common.{◌≡◌, ◌∙◌, true, false, ap, refl, subst, sym}
use Rattle.std.specs.Prelude.{◌==◌}
use Rattle.std.proofs.lemmas.Bool.{eq-eqb, ne_eqb}
use Rattle.std.proofs.lemmas.List.{append-nil}
use Rattle.at_ddp.specs.Datagram.{Content, content}
use Rattle.at_name_socket.specs.NameSockets.{SocketState}
use Rattle.at_node.specs.NameHearing.{HearsNames, told_by}
use Rattle.at_event.specs.Outcomes.{Comes}
use Rattle.at_node.proofs.NameLemmas.{HearsData, fault_comes, heard_comes}
use Rattle.at_event.proofs.OutcomeLemmas.{comes_ignored}
use Rattle.at_node.proofs.name_part.NamePart.hear.Goals as goal
use Rattle.at_node.proofs.name_part.NamePart.hear.Goals.{in-Ok, in-Err}

pub returns-then-datagram-ne-NAME_SOCKET-clause-comes : goal.returns-then-datagram-ne-NAME_SOCKET-clause-comes
returns-then-datagram-ne-NAME_SOCKET-clause-comes g c =
    let d = c.args.packet.now in
    let other : (d.to.socket == 2) ≡ false = ap (λ (d : Content). d.to.socket == 2) (sym c.datagram-datagram.ensures)
    ∙ ne_eqb (content c.datagram-datagram.result).to.socket 2 c.if-datagram-ne-NAME_SOCKET.true in
    comes_ignored (HearsNames c.args.seat c.args.self.now d) c.args.self.now c.args.out.now.items (rw other refl)

pub returns-clause-comes : goal.returns-clause-comes
returns-clause-comes g c =
    let d = c.args.packet.now in
    let n = c.self.inside.socket in
    let s = c.args.seat in
    let items = c.args.out.now.items in
    let its : (d.to.socket == 2) ≡ true = ap (λ (d : Content). d.to.socket == 2) (sym c.datagram-datagram.ensures)
    ∙ eq-eqb (content c.datagram-datagram.result).to.socket 2 c.if-datagram-ne-NAME_SOCKET.false in
    rw its
    (elim c.match-hear.branch [
      | in-Ok w ↦
          let ok = w.in-Ok.ensures.ok in
          let one : c.match-hear.result ≡ told_by w.in-Ok.heard = w.result-is ∙ w.told_by.ensures.report in
          rw one
          (subst (λ (x : SocketState). Comes (HearsData {A = g.row.A.Denot} s x d.data_) x items
          (told_by w.in-Ok.heard) c.hear.new.self c.hear.new.out.items) c.self.view_is
          (heard_comes g.row.A.Denot s n d.data_ items w.in-Ok.heard c.hear.new.self ok.0
          c.send_from.new.self c.hear.new.out ok.1 ok.2 c.send_from.ensures.items
          (c.send_from.ensures.from ∙ c.at.ensures) c.send_from.ensures.kind))
      | in-Err w ↦
          let e = w.in-Err.ensures in
          let nothing = e.nothing_sent in
          let same : c.hear.new.self ≡ c.args.self.now = e.unchanged ∙ c.self.view_is in
          let stays : c.hear.new.out.items ≡ items = nothing.items ∙ append-nil c.send_from.new.self.items
          ∙ c.send_from.ensures.items in
          rw (w.result-is, same, stays)
          (subst (λ (x : SocketState). Comes (HearsData {A = g.row.A.Denot} s x d.data_) x items w.refused.result x
          items) c.self.view_is
          (fault_comes g.row.A.Denot s n d.data_ items w.in-Err.fault w.number.result w.refused.result w.number.ensures
          w.refused.ensures.report (λ other. e.fault other) (λ lacks. e.owed lacks)))
    ])

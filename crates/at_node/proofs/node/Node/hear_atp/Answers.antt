use Rattle.std.proofs.Common.{◌≡◌, ap, subst, sym}
use Rattle.at_event.specs.Kinds.{Atp}
use Rattle.at_event.specs.Outcomes.{Comes, Through}
use Rattle.at_event.proofs.OutcomeLemmas.{comes_wider}
use Rattle.at_zone_socket.specs.AtpHearing.{HearsAtp}
use Rattle.at_zone_socket.specs.AtpParts.{AtpState}
use Rattle.at_node.specs.Nodes.{HearsMine, NodeState, over_atp, speaker_of}
use Rattle.at_zone_socket.proofs.Opened.{opened}
use Rattle.at_node.proofs.SessionLemmas.{heard_over}
use Rattle.at_node.proofs.node.Node.hear_atp.Goals as goal

pub returns : goal.returns
returns g c =
    let inside : NodeState = opened c.self.view_is in
    -- the node then, with this part for transactions
    let new : AtpState → NodeState = λ a. record inside { atp = a; session = c.keep_list-old.new.self } in
    let d = c.args.packet.now in
    let r = c.hear-report.ensures.heard in
    let items = c.args.out.now.items in
    let result = c.hear-report.result in
    let after = c.hear-report.new.out.items in
    let its : speaker_of d.kind ≡ Atp = ap speaker_of c.requires in (
      r.0,
      subst (λ (n : NodeState). Comes (HearsMine r.0 n d) n items result (new c.keep_room.new.self) after)
          c.self.view_is
          (subst (λ (a : AtpState). Comes (HearsMine r.0 inside d) inside items result (new a) after)
          (sym c.keep_room.ensures)
          (comes_wider (Through (over_atp inside) (HearsAtp r.0 inside.seat inside.atp d)) (HearsMine r.0 inside d)
          inside items result (new c.hear-report.new.self) after (λ o p. rw its p)
          (heard_over g.row.A.Denot inside (HearsAtp r.0 inside.seat inside.atp d) items result c.hear-report.new.self
          after c.keep_list-old.new.self r.1 c.keep_list-old.ensures.keeps))),
      r.2,
    )

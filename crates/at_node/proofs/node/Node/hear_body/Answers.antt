use Rattle.std.proofs.Common.{◌≡◌, true, false, ap, refl}
use Rattle.at_ddp.specs.Datagram.{content}
use Rattle.at_event.specs.declared.service.Reply.TheVariants.{Later}
use Rattle.at_packet.specs.Bodies.{datagram_of}
use Rattle.at_node.specs.Hearing.{HearsIt}
use Rattle.at_node.specs.Nodes.{HearsMine, NodeState}
use Rattle.at_node.proofs.BodyLemmas.{for_seat, is_for}
use Rattle.at_event.proofs.OutcomeLemmas.{comes_ignored, comes_wider}
use Rattle.at_node.proofs.node.Node.hear_body.Goals as goal

pub returns-then-not-is_for : goal.returns-then-not-is_for
returns-then-not-is_for g c =
    let n : NodeState = c.args.self.now in
    let d = datagram_of c.args.body.now in
    let other : is_for n.seat d ≡ false = for_seat c.self.inside.seat n.seat (content c.datagram-datagram.result) d
    c.is_for.result false c.is_for.ensures c.if-not-is_for.true (ap (λ (x : NodeState). x.seat) c.self.view_is)
    c.datagram-datagram.ensures in
    (Later, comes_ignored (HearsIt Later n d) n c.args.out.now.items (rw other refl), refl)

pub returns : goal.returns
returns g c =
    let n : NodeState = c.args.self.now in
    let d = datagram_of c.args.body.now in
    let r = c.hear_mine.ensures in
    let mine : is_for n.seat d ≡ true = for_seat c.self.inside.seat n.seat (content c.datagram-datagram.result) d
    c.is_for.result true c.is_for.ensures c.if-not-is_for.false (ap (λ (x : NodeState). x.seat) c.self.view_is)
    c.datagram-datagram.ensures in (
      r.0,
      comes_wider (HearsMine r.0 n d) (HearsIt r.0 n d) n c.args.out.now.items c.hear_mine.result
          c.hear_mine.new.self c.hear_mine.new.out.items (λ o p. rw mine p) r.1,
      r.2,
    )

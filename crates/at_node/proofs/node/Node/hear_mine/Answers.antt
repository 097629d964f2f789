use Rattle.std.proofs.Common.{◌≡◌, ◌∙◌, ap, refl}
use Rattle.at_event.specs.Kinds.{Nobody}
use Rattle.at_event.specs.declared.service.Reply.TheVariants.{Later}
use Rattle.at_event.proofs.OutcomeLemmas.{comes_ignored}
use Rattle.at_packet.specs.Bodies.{datagram_of}
use Rattle.at_node.specs.Nodes.{HearsMine, NodeState, speaker_of}
use Rattle.at_node.proofs.BodyLemmas.{other_kind, other_of}
use Rattle.at_node.proofs.Protocols.{nobodys}
use Rattle.at_node.proofs.node.Node.hear_mine.Goals as goal

pub returns-in-Other : goal.returns-in-Other
returns-in-Other g c =
    let n : NodeState = c.args.self.now in
    let d = c.in-Other.field-0 in
    let same = other_of c.args.body.now d c.in-Other.is in
    let none : speaker_of (datagram_of c.args.body.now).kind ≡ Nobody = ap (λ x. speaker_of x.kind) same
    ∙ nobodys d (other_kind c.args.body.now d c.in-Other.is c.requires) in (
      Later,
      comes_ignored (HearsMine Later n (datagram_of c.args.body.now)) n c.args.out.now.items (rw none refl),
      refl,
    )

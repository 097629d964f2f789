use Rattle.std.proofs.Common.{◌≡◌, ap, refl, subst}
use Rattle.at_event.specs.Kinds.{Adsp}
use Rattle.at_event.specs.Outcomes.{Comes, Over}
use Rattle.at_event.specs.declared.service.Reply.TheVariants.{Later}
use Rattle.at_event.proofs.OutcomeLemmas.{comes_over, comes_wider}
use Rattle.at_event.proofs.ServedLemmas.{not_served}
use Rattle.at_stream_socket.specs.Hearing.{HearsStreams}
use Rattle.at_node.specs.Nodes.{HearsMine, NodeState, speaker_of, with_streams}
use Rattle.at_zone_socket.proofs.Opened.{opened}
use Rattle.at_node.proofs.node.Node.hear_streams.Goals as goal

pub returns : goal.returns
returns g c =
    let h = c.hear in
    let inside : NodeState = opened c.self.view_is in
    let new : NodeState = record inside { streams = h.new.self } in
    let d = c.args.packet.now in
    let before = c.args.out.now.items in
    let after = h.new.out.items in
    let its : speaker_of d.kind ≡ Adsp = ap speaker_of c.requires in (
      Later,
      subst (λ (n : NodeState). Comes (HearsMine Later n d) n before h.result new after) c.self.view_is
          (comes_wider (Over (with_streams inside) (HearsStreams inside.seat inside.streams d))
          (HearsMine Later inside d) inside before h.result new after (λ o p. rw its p)
          (comes_over (with_streams inside) inside inside.streams refl before h.result h.new.self after
          (HearsStreams inside.seat inside.streams d) h.ensures.comes)),
      not_served _ h.result Later c.args.service.now h.ensures.not_asked,
    )

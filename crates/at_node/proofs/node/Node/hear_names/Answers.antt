use Rattle.std.proofs.Common.{◌≡◌, ap, refl, subst}
use Rattle.at_event.specs.Kinds.{Nbp}
use Rattle.at_event.specs.Outcomes.{Comes, Over}
use Rattle.at_event.specs.declared.service.Reply.TheVariants.{Later}
use Rattle.at_event.proofs.OutcomeLemmas.{comes_over, comes_wider}
use Rattle.at_event.proofs.ServedLemmas.{not_served}
use Rattle.at_node.specs.NameHearing.{HearsNames}
use Rattle.at_node.specs.Nodes.{HearsMine, NodeState, speaker_of, with_names}
use Rattle.at_zone_socket.proofs.Opened.{opened}
use Rattle.at_node.proofs.node.Node.hear_names.Goals as goal

pub returns : goal.returns
returns g c =
    let h = c.hear in
    let inside : NodeState = opened c.self.view_is in
    let new : NodeState = record inside { names = h.new.self } in
    let d = c.args.packet.now in
    let before = c.args.out.now.items in
    let after = h.new.out.items in
    let its : speaker_of d.kind ≡ Nbp = ap speaker_of c.requires in (
      Later,
      subst (λ (n : NodeState). Comes (HearsMine Later n d) n before h.result new after) c.self.view_is
          (comes_wider (Over (with_names inside) (HearsNames inside.seat inside.names d))
          (HearsMine Later inside d) inside before h.result new after (λ o p. rw its p)
          (comes_over (with_names inside) inside inside.names refl before h.result h.new.self after
          (HearsNames inside.seat inside.names d) h.ensures.comes)),
      not_served _ h.result Later c.args.service.now h.ensures.not_asked,
    )

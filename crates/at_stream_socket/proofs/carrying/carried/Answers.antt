use Rattle.std.proofs.Common.{◌≡◌, ℕ, List, [], ◌∷◌, Option, Some, ap, subst, sym, ◌∙◌}
use Rattle.std.specs.Prelude.{◌↔◌}
use Rattle.std.specs.List.{Contains}
use Rattle.at_ddp.specs.Datagram.{Content}
use Rattle.at_adsp_frame.specs.Segments.{content}
use Rattle.at_stream_socket.specs.Carrying.{Carries, dest_of}
use Rattle.at_stream_socket.proofs.NumberLemmas.{contained, found, numbered}
use Rattle.at_stream_socket.proofs.carrying.carried.Goals as goal

pub returns-in-Ok : goal.returns-in-Ok
returns-in-Ok c node id =
    let d = c.args.packet.now in
    let s = content c.in-Ok.segment in
    let from = ap (λ (d : Content). d.from.node) c.datagram-datagram.ensures in
    let to = ap (λ (d : Content). d.to.node) c.datagram-datagram.ensures in
    let all : ◌≡◌ {A = List (Option (ℕ × ℕ))} (c.numbered.result ∷ c.numbered-in-Ok.result ∷ [])
    (numbered d.from.node s.source ∷ numbered d.to.node (dest_of s.body) ∷ []) =
    λ i. (c.numbered.ensures ∙ ap (λ node. numbered node s.source) from) i
    ∷ (c.numbered-in-Ok.ensures ∙ ap (numbered c.datagram-datagram.result.to.node) c.dest_of.ensures
    ∙ ap (λ node. numbered node (dest_of s.body)) to) i ∷ [] in
    subst (λ l. Contains l (Some (node, id)) ↔ Carries d.from d.to d.data_ node id) (sym all) (
      found d.from d.to d.data_ s c.in-Ok.ensures.found c.in-Ok.ensures.only node id,
      contained d.from d.to d.data_ s c.in-Ok.ensures.found c.in-Ok.ensures.only node id,
    )

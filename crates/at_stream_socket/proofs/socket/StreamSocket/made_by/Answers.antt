use Rattle.std.proofs.Common.{◌≡◌, ap, sym, ◌∙◌}
use Rattle.std.specs.Prelude.{◌==◌, true}
use Rattle.std.proofs.lemmas.Bool.{eq-eqb}
use Rattle.at_ddp.specs.Datagram.{Content as Datagram, content}
use Rattle.at_ddp.specs.declared.address.Address.{Address}
use Rattle.at_adsp_frame.specs.Segments.{Content, content as segment_in}
use Rattle.at_adsp_end.specs.Positions.{wire}
use Rattle.at_adsp_ends.specs.Receiving.{made_id, received}
use Rattle.at_stream_socket.proofs.MakingLemmas.{found_by, request_makes}
use Rattle.at_stream_socket.proofs.socket.StreamSocket.made_by.Goals as goal

pub returns-in-Ok-clause-only : goal.returns-in-Ok-clause-only
returns-in-Ok-clause-only g c id m =
    let d = c.args.packet.now in
    let from : c.datagram-datagram.result.from ≡ d.from = ap (λ (d : Datagram). d.from) c.datagram-datagram.ensures in
    let same : segment_in c.in-Ok.segment ≡ m.segment = c.in-Ok.ensures.only m.segment m.spelled in
    c.made_by.ensures
    ∙ ap (λ (at : Address). made_id (received wire c.self.inside.ends at (segment_in c.in-Ok.segment)).answer) from
    ∙ ap (λ (s : Content). made_id (received wire c.self.inside.ends d.from s).answer) same
    ∙ ap (λ t. made_id (received wire t d.from m.segment).answer) c.self.view_is
    ∙ request_makes c.args.self.now d.from m.segment id m.makes

pub returns-in-Ok-clause-found : goal.returns-in-Ok-clause-found
returns-in-Ok-clause-found g c =
    let d = c.args.packet.now in
    let from : c.datagram-datagram.result.from ≡ d.from = ap (λ (d : Datagram). d.from) c.datagram-datagram.ensures in
    let its : (d.to.socket == 130) ≡ true = ap (λ (d : Datagram). d.to.socket == 130) (sym c.datagram-datagram.ensures)
    ∙ eq-eqb (content c.datagram-datagram.result).to.socket 130 c.if-datagram.false in
    found_by c.args.self.now d (segment_in c.in-Ok.segment) c.made_by.result its c.in-Ok.ensures.found
    (c.made_by.ensures
    ∙ ap (λ (at : Address). made_id (received wire c.self.inside.ends at (segment_in c.in-Ok.segment)).answer) from
    ∙ ap (λ t. made_id (received wire t d.from (segment_in c.in-Ok.segment)).answer) c.self.view_is)

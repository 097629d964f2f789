use Rattle.std.proofs.Common.{◌≡◌, ap, subst, sym, ◌∙◌}
use Rattle.std.specs.Prelude.{◌==◌, false, true}
use Rattle.std.proofs.lemmas.Bool.{eq-eqb, ne_eqb}
use Rattle.at_ddp.specs.Datagram.{Content, content}
use Rattle.at_adsp_frame.specs.Segments.{Spells, content as segment_in}
use Rattle.at_event.specs.Outcomes.{Comes}
use Rattle.at_stream_socket.specs.Hearing.{HearsStreams}
use Rattle.at_stream_socket.proofs.CallLemmas.{IsBox}
use Rattle.at_stream_socket.proofs.HearLemmas.{fault_comes, ignored_ok, other_ignored, reported, taken_comes}
use Rattle.at_stream_socket.proofs.socket.StreamSocket.hear.Goals as goal
use Rattle.at_stream_socket.proofs.socket.StreamSocket.hear.Goals.{in-Ok-receive, in-Err-receive}

pub returns-then-datagram-clause-comes : goal.returns-then-datagram-clause-comes
returns-then-datagram-clause-comes g c =
    let d = c.args.packet.now in
    let other : (d.to.socket == 130) ≡ false = ap (λ (d : Content). d.to.socket == 130)
    (sym c.datagram-datagram.ensures)
    ∙ ne_eqb (content c.datagram-datagram.result).to.socket 130 c.if-datagram.true in
    other_ignored g.row.A.Denot c.args.seat c.args.self.now d c.args.out.now.items other

pub returns-in-Err-clause-comes : goal.returns-in-Err-clause-comes
returns-in-Err-clause-comes g c =
    let d = c.args.packet.now in
    let its : (d.to.socket == 130) ≡ true = ap (λ (d : Content). d.to.socket == 130) (sym c.datagram-datagram.ensures)
    ∙ eq-eqb (content c.datagram-datagram.result).to.socket 130 c.if-datagram.false in
    fault_comes g.row.A.Denot c.args.seat c.args.self.now d c.args.out.now.items its c.in-Err.fault c.faulty.result
    c.in-Err.ensures.fault c.faulty.ensures.report

pub returns-clause-comes : goal.returns-clause-comes
returns-clause-comes g c =
    let d = content c.datagram-datagram.result in
    let box : IsBox c.args.seat c.send_from.new.self c.args.out.now.items = record {
      items = c.send_from.ensures.items;
      from = c.send_from.ensures.from ∙ c.at.ensures;
      kind = c.send_from.ensures.kind;
    } in
    let same : c.match-receive.result ≡ reported c.receive.result = elim c.match-receive.branch [
      | in-Ok-receive w ↦ w.result-is ∙ w.told_by.ensures.report
          ∙ ap (reported {A = g.row.A.Denot}) (sym w.in-Ok-receive.is)
      | in-Err-receive w ↦ w.result-is ∙ ap (reported {A = g.row.A.Denot}) (sym w.in-Err-receive.is)
    ] in
    let heeds = ignored_ok c.self.inside.ends d.from (segment_in c.in-Ok.segment) c.send_from.new.self
    c.receive.result
    (c.what_is_ignored_does_nothing.ensures c.self.inside.ends d.from (segment_in c.in-Ok.segment))
    c.receive.ensures.memory in
    subst (λ (d : Content). Comes (HearsStreams c.args.seat c.args.self.now d) c.args.self.now c.args.out.now.items
    c.match-receive.result c.receive.new.self c.receive.new.out.items) c.datagram-datagram.ensures
    (rw (same, ← c.self.view_is)
    (taken_comes g.row.A.Denot c.args.seat c.self.inside.ends d c.args.out.now.items
    (eq-eqb d.to.socket 130 c.if-datagram.false) c.receive.new.self
    (segment_in c.in-Ok.segment) c.receive.result c.send_from.new.self c.receive.new.out
    (subst (λ (d : Content). Spells d.data_ (segment_in c.in-Ok.segment)) (sym c.datagram-datagram.ensures)
    c.in-Ok.ensures.found) box c.receive.ensures.taken heeds))

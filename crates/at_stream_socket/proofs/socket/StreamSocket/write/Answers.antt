use Rattle.std.proofs.Common.{◌≡◌, ap, refl, sym, ◌∙◌}
use Rattle.at_adsp_end.specs.Positions.{wire}
use Rattle.at_adsp_ends.specs.Calls.{wrote}
use Rattle.at_adsp_ends.specs.Tables.{by_id}
use Rattle.at_stream_socket.specs.Sockets.{told_wrote}
use Rattle.at_stream_socket.proofs.CallLemmas.{IsBox, call_step, reported}
use Rattle.at_stream_socket.proofs.socket.StreamSocket.write.Goals as goal
use Rattle.at_stream_socket.proofs.socket.StreamSocket.write.Goals.{in-Ok, in-Err}

pub returns : goal.returns
returns g c =
    let box : IsBox c.args.seat c.send_from.new.self c.args.out.now.items = record {
      items = c.send_from.ensures.items;
      from = c.send_from.ensures.from ∙ c.at.ensures;
      kind = c.send_from.ensures.kind;
    } in
    let same : c.match-write.result ≡ reported {A = g.row.A.Denot} told_wrote c.write.result =
    elim c.match-write.branch [
      | in-Ok w ↦ w.result-is ∙ ap (reported {A = g.row.A.Denot} told_wrote) (sym w.in-Ok.is)
      | in-Err w ↦ w.result-is ∙ w.refused_by.ensures ∙ ap (reported {A = g.row.A.Denot} told_wrote) (sym w.in-Err.is)
    ] in
    rw (same, ← c.self.view_is)
    (call_step c.args.seat c.self.inside.ends c.write.new.self told_wrote
    (wrote wire c.self.inside.ends c.args.items.now (by_id c.self.inside.ends c.args.id)) c.write.result
    c.send_from.new.self c.write.new.out c.args.out.now.items (λ x. refl)
    (λ d is. refl) box c.write.ensures.call)
